use Rattle.std.proofs.Common.{◌≡◌, ◌∙◌, ◌&&◌, not, List, sym, ap, subst, arith}
use Rattle.mq_packet.specs.declared.connect.Connect.{Connect}
use Rattle.mq_packet.specs.declared.message.Message.{Message}
use Rattle.mq_route.specs.declared.act.Act.{Act}
use Rattle.mq_route.specs.declared.close.HubClose.TheVariants.{TakenOver}
use Rattle.mq_route.specs.declared.connection_state.ConnectionState.TheVariants.{AwaitingConnect, ConnectedAs}
use Rattle.mq_route.specs.declared.connection_state.ConnectionTerms.{ConnectionTerms}
use Rattle.mq_route.specs.Arrives.{resume_session, terms_of}
use Rattle.mq_route.specs.Hub.{HubState, HubConnection, is_clean, key_on, stage_of, with_connection}
use Rattle.mq_route.specs.Work.{close}
use Rattle.mq_tables.specs.Connecting.{HasConnectRoomAt}
use Rattle.mq_tables.specs.Tables.{HubTables}
use Rattle.mq_tables.proofs.FirstPackets.{err_any}
use Rattle.mq_hub.specs.Inside.Refinement.{Refines}
use Rattle.mq_hub.specs.Inside.Invariant.{IsWillWithin}
use Rattle.mq_hub.specs.Inside.Close.{close_at, will_left}
use Rattle.mq_hub.specs.Inside.ConnectRoom.{will_messages}
use Rattle.mq_hub.specs.Inside.View.{hub_of}
use Rattle.mq_hub.proofs.DisconnectTimes.{closed_at}
use Rattle.mq_hub.proofs.TakenOutput.{backed_at}
use Rattle.mq_hub.proofs.TakeOverResume.{goes_over, hub_made, keeps_over, kept_made, output_still}
use Rattle.mq_hub.proofs.TakeOver.{stage_there}
use Rattle.mq_hub.proofs.hub.HubOver.take_over_and_resume.Goals as goal

pub reserve_connect-requires : goal.reserve_connect-requires
reserve_connect-requires g c =
    let h = c.self.inside in
    let t = h.tables in
    backed_at h.config.limits.most c.args.other c.args.key t.sessions.list t.connections.connections c.self.invariant.backed
    (ap key_on (stage_there c.args.other h.config h.clock h.next_key t c.args.self.now c.self.view_is) ∙ c.requires.up)

pub invariant_of-self : goal.invariant_of-self
invariant_of-self g c =
    let h = c.self.inside in
    let r = c.reserve_connect.ensures in
    kept_made h.config h.next_key h.tables c.reserve_connect.new.self c.self.invariant r.rest r.alike r.connections r.limits

pub returns-in_err-reserve_connect-clause-err : goal.returns-in_err-reserve_connect-clause-err
returns-in_err-reserve_connect-clause-err g c =
    let h = c.self.inside in
    let r = c.reserve_connect.ensures in
    err_any c.from_residual-in_err-reserve_connect.result
    (hub_made h.config h.next_key h.tables c.reserve_connect.new.self c.self.invariant r.rest r.alike r.connections h.clock ∙ c.self.view_is)

pub take_over_keeping-requires-clause-hubs : goal.take_over_keeping-requires-clause-hubs
take_over_keeping-requires-clause-hubs g c =
    let h = c.self.inside in
    let r = c.reserve_connect.ensures in record {
      config = h.config;
      next_key = h.next_key;
      keeps = kept_made h.config h.next_key h.tables c.reserve_connect.new.self c.self.invariant r.rest r.alike r.connections r.limits;
    }

pub take_over_keeping-requires-clause-up : goal.take_over_keeping-requires-clause-up
take_over_keeping-requires-clause-up g c =
    let h = c.self.inside in
    ap (λ (xs : List HubConnection). key_on (stage_of c.args.other xs)) c.reserve_connect.ensures.connections
    ∙ ap key_on (stage_there c.args.other h.config h.clock h.next_key h.tables c.args.self.now c.self.view_is) ∙ c.requires.up

pub take_over_keeping-requires-clause-lasts : goal.take_over_keeping-requires-clause-lasts
take_over_keeping-requires-clause-lasts g c =
    let h = c.self.inside in
    ap (λ (xs : List HubConnection). is_clean (stage_of c.args.other xs)) c.reserve_connect.ensures.connections
    ∙ ap is_clean (stage_there c.args.other h.config h.clock h.next_key h.tables c.args.self.now c.self.view_is) ∙ c.requires.lasts

pub take_over_keeping-requires-clause-waiting : goal.take_over_keeping-requires-clause-waiting
take_over_keeping-requires-clause-waiting g c =
    output_still c.args.key c.in_ok-waiting.waiting c.self.inside.tables.sessions.list c.reserve_connect.new.self.sessions.list c.reserve_connect.ensures.alike
    c.in_ok-waiting.ensures

pub resume_when_ready-requires-clause-stage : goal.resume_when_ready-requires-clause-stage
resume_when_ready-requires-clause-stage g c =
    let h = c.self.inside in
    c.take_over_keeping.ensures.proceeds.fresh c.args.conn
    (ap (λ (xs : List HubConnection). stage_of c.args.conn xs) c.reserve_connect.ensures.connections
    ∙ stage_there c.args.conn h.config h.clock h.next_key h.tables c.args.self.now c.self.view_is ∙ c.requires.fresh)

pub resume_when_ready-requires-clause-room : goal.resume_when_ready-requires-clause-room
resume_when_ready-requires-clause-room g c =
    let had = c.in_ok-reserve_connect.ensures.up_room in
    let left = c.take_over_keeping.ensures.proceeds.up_room in
    omega arith

pub resume_when_ready-requires-clause-ready : goal.resume_when_ready-requires-clause-ready
resume_when_ready-requires-clause-ready g c =
    let key = c.args.key in
    let ts = c.reserve_connect.new.self.sessions.list in
    let due = c.as_slice.ensures.value ∙ c.in_ok-messages.ensures ∙ ap (λ (xs : List HubConnection). will_messages (will_left TakenOver (stage_of c.args.other xs)))
    (sym c.reserve_connect.ensures.connections) in
    c.take_over_keeping.ensures.connect_end c.args.connect c.reserve_connect.ensures.small
    (subst (λ (ms : List Message). HasConnectRoomAt c.args.connect key ms 0 ts) due
    (subst (λ (x : Connect). HasConnectRoomAt x key c.as_slice.result.now 0 ts) c.as_connect-2.ensures c.in_ok-reserve_connect.ensures.ok))

pub invariant_of-self-2 : goal.invariant_of-self-2
invariant_of-self-2 g c =
    let h = c.self.inside in
    let t : HubTables = h.tables in
    let r : HubTables = c.reserve_connect.new.self in
    let v : HubTables = c.take_over_keeping.new.tables in
    let u : HubTables = c.resume_when_ready.new.self in
    let k = c.args.conn in
    let key = c.args.key in
    let e = c.reserve_connect.ensures in
    let kept = kept_made h.config h.next_key t r c.self.invariant e.rest e.alike e.connections e.limits in
    let at : stage_of k r.connections.connections ≡ AwaitingConnect =
    ap (λ (xs : List HubConnection). stage_of k xs) e.connections ∙ stage_there k h.config h.clock h.next_key t c.args.self.now c.self.view_is ∙ c.requires.fresh in
    let connections = c.resume_when_ready.ensures.connections ∙ ap (λ (m : ConnectionTerms). with_connection (λ x. record x { stage = ConnectedAs key m h.clock }) k v.connections.connections)
    (c.in_ok-terms.ensures ∙ ap terms_of c.as_connect.ensures) in
    keeps_over c.rules_of-rules.result (close_at h.clock c.args.other TakenOver) k c.args.connect key h.config h.clock h.next_key r v u c.reserve_more.new.self.acts c.take_over_keeping.new.log.acts
    c.push.new.self.acts
    (λ i. not (c.requires.goes_on i) && c.requires.named i) kept at c.take_over_keeping.ensures.proceeds c.take_over_keeping.ensures.away c.resume_when_ready.ensures.list
    c.resume_when_ready.ensures.rest connections
    (subst (λ (s : HubState). IsWillWithin s.config.limits.most c.args.connect.will) (sym c.self.view_is) c.requires.will) c.resume_when_ready.ensures.limits

pub returns-clause-goes : goal.returns-clause-goes
returns-clause-goes g c =
    let h = c.self.inside in
    let t : HubTables = h.tables in
    let r : HubTables = c.reserve_connect.new.self in
    let v : HubTables = c.take_over_keeping.new.tables in
    let u : HubTables = c.resume_when_ready.new.self in
    let k = c.args.conn in
    let key = c.args.key in
    let e = c.reserve_connect.ensures in
    let kept = kept_made h.config h.next_key t r c.self.invariant e.rest e.alike e.connections e.limits in
    let at : stage_of k r.connections.connections ≡ AwaitingConnect =
    ap (λ (xs : List HubConnection). stage_of k xs) e.connections ∙ stage_there k h.config h.clock h.next_key t c.args.self.now c.self.view_is ∙ c.requires.fresh in
    let connections = c.resume_when_ready.ensures.connections ∙ ap (λ (m : ConnectionTerms). with_connection (λ x. record x { stage = ConnectedAs key m h.clock }) k v.connections.connections)
    (c.in_ok-terms.ensures ∙ ap terms_of c.as_connect.ensures) in
    let same : hub_of h.config h.clock h.next_key r ≡ c.args.self.now = hub_made h.config h.next_key t r c.self.invariant e.rest e.alike e.connections h.clock
    ∙ c.self.view_is in
    let goes =
    goes_over c.rules_of-rules.result (close_at h.clock c.args.other TakenOver) k c.args.connect key h.config h.clock h.next_key r v u c.reserve_more.new.self.acts c.take_over_keeping.new.log.acts
    c.push.new.self.acts
    (λ i. not (c.requires.goes_on i) && c.requires.named i) kept at c.take_over_keeping.ensures.proceeds c.take_over_keeping.ensures.away c.resume_when_ready.ensures.list
    c.resume_when_ready.ensures.rest connections
    (sym c.rules_of-rules.ensures) c.requires.goes_on c.push.ensures.acts in (
      goes.0,
      subst (λ (d : List Act). Refines (λ w. resume_session k c.args.connect key (close c.args.other TakenOver goes.0 w)) c.args.self.now d
          (hub_of h.config h.clock h.next_key u) c.push.new.self.acts)
          c.reserve_more.ensures.same
          (subst (λ (s : HubState). Refines (λ w. resume_session k c.args.connect key (close c.args.other TakenOver goes.0 w)) s c.reserve_more.new.self.acts
          (hub_of h.config h.clock h.next_key u) c.push.new.self.acts)
          same
          (closed_at (λ w. resume_session k c.args.connect key w) c.args.other TakenOver goes.0 (hub_of h.config h.clock h.next_key r) (hub_of h.config h.clock h.next_key u)
          c.reserve_more.new.self.acts c.push.new.self.acts goes.1)),
    )
