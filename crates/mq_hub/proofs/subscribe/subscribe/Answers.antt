use Rattle.std.proofs.Common.{rules, ◌≡◌, ◌∙◌, ◌+◌, ℕ, List, Option, IfSome, is_some, length, Result, Ok, refl, sym, ap, subst}
use Rattle.std.specs.declared.alloc.AllocError.{AllocError}
use Rattle.mq_packet.specs.declared.message.Message.{Message}
use Rattle.mq_packet.specs.declared.packet.Request.{Request}
use Rattle.mq_packet.specs.declared.packet.SubAckCode.{SubAckCode}
use Rattle.mq_packet.specs.Encoding.{encoded_size}
use Rattle.mq_end.specs.declared.packet_outcome.PacketOutcome.{PacketOutcome}
use Rattle.mq_route.specs.Arrives.{granted}
use Rattle.mq_route.specs.Hub.{for_key}
use Rattle.mq_route.specs.Work.{have_room, retained_copies}
use Rattle.mq_tables.specs.declared.sessions.call.Call.TheVariants.{Grants}
use Rattle.mq_tables.specs.Calls.{CanServe, ServesAt}
use Rattle.mq_tables.specs.Publishing.{AreSameButRoom, IsReadyAt}
use Rattle.mq_tables.specs.Tables.{HubTables}
use Rattle.mq_tables.specs.Subscriptions.{with_rows}
use Rattle.mq_tables.proofs.EndCalls.{can_alike, left_ready, served_ok}
use Rattle.mq_tables.proofs.OtherEnd.{holds_at}
use Rattle.mq_hub.specs.declared.publish.settle.SettledMessages.{SettledMessages}
use Rattle.mq_hub.specs.Inside.Invariant.{SessionMatchesConnection}
use Rattle.mq_hub.specs.Inside.Placement.{HasSessions, IsFor, Settles}
use Rattle.mq_hub.specs.Inside.Settlement.{IsSettledAs}
use Rattle.mq_hub.proofs.SubscribePackets.{granted_length, grants_fit, settles_served}
use Rattle.mq_hub.proofs.subscribe.subscribe.Goals as goal

pub settle_for-requires : goal.settle_for-requires
settle_for-requires g c =
    let key = c.args.key in
    let ms = c.in_ok-messages.messages.items in
    let sliced : c.as_slice.result.now ≡ c.args.requests = c.as_slice.ensures.value in
    subst (λ (v : HubTables). IsFor key ms v.sessions.list) (sym c.tables.view_is)
    (c.requires.due ms (c.in_ok-messages.ensures key
    ∙ ap (λ (rs : List Request). retained_copies key rs c.tables.inside.retained.messages) sliced
    ∙ ap (λ (v : HubTables). retained_copies key c.args.requests v.retained.messages) c.tables.view_is))

pub serve-requires : goal.serve-requires
serve-requires g c =
    let key = c.args.key in
    let sliced : c.as_slice-2.result.now ≡ c.args.requests = c.as_slice-2.ensures.value in
    let codes : c.from_vec.result ≡ granted c.args.requests = c.from_vec.ensures ∙ c.in_ok-codes.ensures ∙ ap granted sliced in
    can_alike key (Grants c.args.id c.from_vec.result) c.tables.inside.sessions.list c.settle_for.new.sessions.list c.settle_for.ensures.same
    (subst (λ (v : HubTables). CanServe key (Grants c.args.id c.from_vec.result) v.sessions.list) (sym c.tables.view_is)
    (subst (λ (cs : List SubAckCode). CanServe key (Grants c.args.id cs) c.args.tables.now.sessions.list) (sym codes) c.requires.can))

pub enqueue_for-requires : goal.enqueue_for-requires
enqueue_for-requires g c =
    let key = c.args.key in
    let ready = c.settle_for.new.sessions.list in
    let kept = c.in-Some.settled.kept.items in
    let sliced : c.as_slice-2.result.now ≡ c.args.requests = c.as_slice-2.ensures.value in
    let counted : c.as_slice-count.result.now ≡ c.args.requests = c.as_slice-count.ensures.value in
    let call = Grants c.args.id c.from_vec.result in
    let codes : c.from_vec.result ≡ granted c.args.requests = c.from_vec.ensures ∙ c.in_ok-codes.ensures ∙ ap granted sliced in
    let count = ap (λ (cs : List SubAckCode). length cs) codes ∙ granted_length c.args.requests ∙ sym (ap (λ (rs : List Request). length rs) counted) in
    let fits = grants_fit c.args.id c.from_vec.result (length c.as_slice-count.result.now) (c.size_laws.ensures.suback c.args.id c.from_vec.result) count in
    let was : IsReadyAt key kept (7 + length c.as_slice-count.result.now) ready =
    subst (λ (o : Option SettledMessages). IfSome o (λ s. IsReadyAt key s.kept.items (7 + length c.as_slice-count.result.now) ready)) c.in-Some.is c.in_ok-settled.ensures.ready in
    let ok = served_ok key call c.serve.result kept (7 + length c.as_slice-count.result.now) ready c.serve.new.self.list c.serve.ensures.serves was refl fits in
    left_ready key call c.serve.result kept (7 + length c.as_slice-count.result.now) ready c.serve.new.self.list c.serve.ensures.serves ok.0 ok.1 (λ e. refl) fits was

pub returns-clause-enough : goal.returns-clause-enough
returns-clause-enough g c = λ h has same.
    let key = c.args.key in
    let sliced : c.as_slice.result.now ≡ c.args.requests = c.as_slice.ensures.value in
    let due = c.in_ok-messages.ensures key
    ∙ ap (λ (rs : List Request). retained_copies key rs c.tables.inside.retained.messages) sliced
    ∙ ap (λ (v : HubTables). retained_copies key c.args.requests v.retained.messages) c.tables.view_is in
    sym (c.in_ok-settled.ensures.enough h (subst (λ (v : HubTables). HasSessions v.sessions.list h) (sym c.tables.view_is) has) same
    ∙ ap (λ (cs : List (ℕ × Message)). have_room cs h) due)
    ∙ ap (λ (o : Option SettledMessages). is_some o) c.in-Some.is

pub returns-clause-done : goal.returns-clause-done
returns-clause-done g c = λ done.
    let key = c.args.key in
    let ready = c.settle_for.new.sessions.list in
    let kept = c.in-Some.settled.kept.items in
    let sliced : c.as_slice.result.now ≡ c.args.requests = c.as_slice.ensures.value in
    let sliced-2 : c.as_slice-2.result.now ≡ c.args.requests = c.as_slice-2.ensures.value in
    let sliced-3 : c.as_slice-3.result.now ≡ c.args.requests = c.as_slice-3.ensures.value in
    let counted : c.as_slice-count.result.now ≡ c.args.requests = c.as_slice-count.ensures.value in
    let call = Grants c.args.id c.from_vec.result in
    let codes : c.from_vec.result ≡ granted c.args.requests = c.from_vec.ensures ∙ c.in_ok-codes.ensures ∙ ap granted sliced-2 in
    let count = ap (λ (cs : List SubAckCode). length cs) codes ∙ granted_length c.args.requests ∙ sym (ap (λ (rs : List Request). length rs) counted) in
    let fits = grants_fit c.args.id c.from_vec.result (length c.as_slice-count.result.now) (c.size_laws.ensures.suback c.args.id c.from_vec.result) count in
    let was : IsReadyAt key kept (7 + length c.as_slice-count.result.now) ready =
    subst (λ (o : Option SettledMessages). IfSome o (λ s. IsReadyAt key s.kept.items (7 + length c.as_slice-count.result.now) ready)) c.in-Some.is c.in_ok-settled.ensures.ready in
    let ok = served_ok key call c.serve.result kept (7 + length c.as_slice-count.result.now) ready c.serve.new.self.list c.serve.ensures.serves was refl fits in
    let same : AreSameButRoom c.args.tables.now.sessions.list ready = subst (λ (v : HubTables). AreSameButRoom v.sessions.list ready) c.tables.view_is c.settle_for.ensures.same in
    let serves : ServesAt key (Grants c.args.id (granted c.args.requests)) (Ok ok.0) ready c.serve.new.self.list =
    subst (λ (r : Result PacketOutcome AllocError). ServesAt key (Grants c.args.id (granted c.args.requests)) r ready c.serve.new.self.list) ok.1
    (subst (λ (cs : List SubAckCode). ServesAt key (Grants c.args.id cs) c.serve.result ready c.serve.new.self.list) codes c.serve.ensures.serves) in
    let due = c.in_ok-messages.ensures key
    ∙ ap (λ (rs : List Request). retained_copies key rs c.tables.inside.retained.messages) sliced
    ∙ ap (λ (v : HubTables). retained_copies key c.args.requests v.retained.messages) c.tables.view_is in
    let long = granted_length c.args.requests ∙ sym (ap (λ (rs : List Request). length rs) counted) in
    let queued = c.packet_len-queued.ensures ∙ ap (λ (n : ℕ). encoded_size (2 + n)) (sym long) in
    let settled = subst (λ (v : HubTables). IsSettledAs c.args.rules c.packet_len-queued.result key v.sessions.list c.in_ok-messages.messages.items c.in-Some.settled) c.tables.view_is
    (subst (λ (o : Option SettledMessages). IfSome o (λ s. IsSettledAs c.args.rules c.packet_len-queued.result key c.tables.inside.sessions.list c.in_ok-messages.messages.items s)) c.in-Some.is
    c.in_ok-settled.ensures.settles) in (
      c.in-Some.settled.acts.items,
      record {
        between = record {
          rows = g.S.FilterStore.rows c.set_rows.new.store;
          retained = c.tables.inside.retained;
          sessions = c.serve.new.self;
          connections = c.tables.inside.connections;
        };
        answers = record {
          ready = ready;
          same = same;
          outcome = ok.0;
          serves = serves;
          rows = c.in_ok-set_rows.ensures.ok ∙ ap (λ (rs : List Request). with_rows key rs (g.S.FilterStore.rows c.tables.inside.store)) sliced-3
              ∙ ap (λ (v : HubTables). with_rows key c.args.requests v.rows) c.tables.view_is;
          retained = ap (λ (v : HubTables). v.retained) c.tables.view_is;
          connections = ap (λ (v : HubTables). v.connections) c.tables.view_is;
        };
        messages = kept;
        settles = λ config next rule invariant.
            subst (λ (cs : List (ℕ × Message)). Settles config (λ k. 0) c.serve.new.self.list cs (for_key key kept) c.in-Some.settled.acts.items) due
            (settles_served c.args.rules config key c.args.id c.packet_len-queued.result (granted c.args.requests) ok.0 c.in_ok-messages.messages.items c.in-Some.settled
            c.args.tables.now.sessions.list ready c.serve.new.self.list c.requires.can.session rule same c.requires.can.there serves
            (λ u there. (holds_at (SessionMatchesConnection config c.tables.inside.connections.connections) key u c.serve.new.self.list there invariant.fitting).capacity)
            c.requires.can.up (c.size_laws.ensures.suback c.args.id (granted c.args.requests)) queued settled);
        ready = left_ready key call c.serve.result kept (7 + length c.as_slice-count.result.now) ready c.serve.new.self.list c.serve.ensures.serves ok.0 ok.1 (λ e. refl) fits was;
        list = c.enqueue_for.ensures.list;
        rows = refl;
        retained = refl;
        connections = refl;
      },
      search rules,
    )
