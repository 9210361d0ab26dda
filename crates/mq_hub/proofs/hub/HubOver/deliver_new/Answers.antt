use Rattle.std.proofs.Common.{◌≡◌, ◌≤◌, ◌<◌, ◌∙◌, ◌+◌, ℕ, List, Some, length, true, false, Ok, refl, sym, ap, subst}
use Rattle.mq_packet.specs.declared.message.Message.{Message}
use Rattle.mq_packet.specs.declared.packet.Packet.TheVariants as packets
use Rattle.mq_packet.specs.Publication.{Publication}
use Rattle.mq_end.specs.Sizes.{publish_size}
use Rattle.mq_route.specs.declared.act.Act.TheVariants as acts
use Rattle.mq_route.specs.declared.close.HubClose.TheVariants.{TargetFull}
use Rattle.mq_route.specs.Arrives.{on_connected_packet}
use Rattle.mq_route.specs.Hub.{HubState, copies_of, end_of}
use Rattle.mq_route.specs.Work.{close, have_room, deliver}
use Rattle.mq_tables.specs.Retained.{IsKeptOf, RetainedTable}
use Rattle.mq_tables.specs.Tables.{HubTables}
use Rattle.mq_tables.proofs.FirstPackets.{err_any}
use Rattle.mq_hub.specs.declared.publish.reception.Reception.TheVariants.{New}
use Rattle.mq_hub.specs.declared.publish.queued_answer.QueuedAnswer.{QueuedAnswer}
use Rattle.mq_hub.specs.Inside.Refinement.{Refines}
use Rattle.mq_hub.specs.Inside.Reception.{IsReceived}
use Rattle.mq_hub.specs.Inside.Placement.{HaveQueued, Settles}
use Rattle.mq_hub.specs.Inside.QueuedAnswer.{answer_for, publish_answer}
use Rattle.mq_hub.specs.Inside.View.{hub_of}
use Rattle.mq_hub.proofs.GrantedRows.{on_seen}
use Rattle.mq_hub.proofs.NewPublish.{can_hand, copies_handed, handed_as, handed_goes, kept_handed, kept_unhanded, publish_of, same_publish, same_unhanded, stays_ready, taken_as, unhanded_goes}
use Rattle.mq_hub.proofs.MissedCopies.{room_same_books, room_same_output, settles_alike}
use Rattle.mq_hub.proofs.DeliveryInvariant.{enough_seen, goes_as, has_sessions, hub_alike, kept_alike}
use Rattle.mq_hub.proofs.hub.HubOver.deliver_new.Goals as goal

pub reserve_delivery-requires-clause-due : goal.reserve_delivery-requires-clause-due
reserve_delivery-requires-clause-due g c =
    let h = c.self.inside in
    c.in_ok-plan.ensures.due h.config h.next_key c.self.invariant
    (subst (λ (m : Message). publish_size m ≤ h.config.limits.most) (sym c.into_message-message.ensures)
    (subst (λ (s : HubState). publish_size c.args.publish.message ≤ s.config.limits.most) (sym c.self.view_is) c.requires.within))

pub accept_publish-requires-clause-can : goal.accept_publish-requires-clause-can
accept_publish-requires-clause-can g c =
    let h = c.self.inside in
    let on = on_seen h.config h.clock h.next_key h.tables c.args.self.now c.args.key c.self.view_is c.requires.up in
    can_hand h.config h.clock h.next_key c.args.key h.tables c.reserve_delivery.new.tables c.self.invariant c.reserve_delivery.ensures.alike on.conn on.is (publish_of c.into_message-message.result c.delivery-delivery.result)

pub accept_publish-requires-clause-stays : goal.accept_publish-requires-clause-stays
accept_publish-requires-clause-stays g c =
    let h = c.self.inside in
    let on = on_seen h.config h.clock h.next_key h.tables c.args.self.now c.args.key c.self.view_is c.requires.up in
    stays_ready h.config h.clock h.next_key c.args.key h.tables c.reserve_delivery.new.tables c.self.invariant c.reserve_delivery.ensures.alike on.conn on.is (publish_of c.into_message-message.result c.delivery-delivery.result)
    (handed_as c.args.publish (publish_of c.into_message-message.result c.delivery-delivery.result) c.args.self.now (hub_of h.config h.clock h.next_key h.tables) c.args.key (same_publish c.args.publish c.into_message-message.result c.delivery-delivery.result c.into_message-message.ensures c.delivery-delivery.ensures.value) c.self.view_is c.requires.handed)

pub deliver-requires : goal.deliver-requires
deliver-requires g c =
    let was = c.in_ok-reserve_delivery.ensures.ready (ap Ok c.if-not-branch.false) in
    let a = c.in_ok-accept_publish.ensures.ok in
    record {
      ready = record {
        named = was.named;
        apart = was.apart;
        retained = subst (λ (r : RetainedTable). 0 < r.room) (sym a.retained) was.retained;
        ready = c.in_ok-accept_publish.ensures.ready c.reserve_delivery.new.plan.copies.items was.ready;
        room = was.room;
      };
    }

pub invariant_of-self : goal.invariant_of-self
invariant_of-self g c =
    let h = c.self.inside in
    kept_alike h.config h.next_key h.tables c.reserve_delivery.new.tables c.reserve_delivery.ensures.alike c.self.invariant

pub returns-in_err-reserve_delivery-clause-err : goal.returns-in_err-reserve_delivery-clause-err
returns-in_err-reserve_delivery-clause-err g c =
    let h = c.self.inside in
    err_any c.from_residual-in_err-reserve_delivery.result (hub_alike h.config h.clock h.next_key h.tables c.reserve_delivery.new.tables c.reserve_delivery.ensures.alike ∙ c.self.view_is)

pub invariant_of-self-then-not-branch : goal.invariant_of-self-then-not-branch
invariant_of-self-then-not-branch g c =
    let h = c.self.inside in
    kept_alike h.config h.next_key h.tables c.reserve_delivery.new.tables c.reserve_delivery.ensures.alike c.self.invariant

pub returns-then-not-branch-clause-full : goal.returns-then-not-branch-clause-full
returns-then-not-branch-clause-full g c = λ full.
    let h = c.self.inside in
    hub_alike h.config h.clock h.next_key h.tables c.reserve_delivery.new.tables c.reserve_delivery.ensures.alike ∙ c.self.view_is

pub returns-then-not-branch-clause-closed : goal.returns-then-not-branch-clause-closed
returns-then-not-branch-clause-closed g c = λ full conn fits new says goes.
    let h = c.self.inside in
    let t : HubTables = h.tables in
    let old : HubState = hub_of h.config h.clock h.next_key t in
    let key = c.args.key in
    let m = c.args.publish in
    let on = on_seen h.config h.clock h.next_key t c.args.self.now key c.self.view_is c.requires.up in
    let handed = subst (λ (s : HubState). IsReceived New m (end_of key s.sessions)) (sym c.self.view_is) c.requires.handed in
    let room : false ≡ have_room (copies_of m.message old) old =
    enough_seen false m.message c.in_ok-plan.plan.copies.items old old
    (sym c.if-not-branch.true ∙ c.in_ok-reserve_delivery.ensures.enough old (has_sessions h.config h.clock h.next_key t c.self.invariant) (sym c.rules_of-rules.ensures))
    (subst (λ (n : Message). c.in_ok-plan.plan.copies.items ≡ copies_of n old) c.into_message-message.ensures (c.in_ok-plan.ensures.copies h.config h.clock h.next_key)) refl in
    subst (λ (s : HubState). Refines (on_connected_packet conn key (packets.Publish m) fits) s c.args.log.now.acts new says) c.self.view_is
    (unhanded_goes h.config h.clock h.next_key key t c.reserve_delivery.new.tables c.self.invariant c.reserve_delivery.ensures.alike on.conn on.is m handed
    conn fits new c.args.log.now.acts says (sym room)
    (subst (λ (s : HubState). Refines (close conn TargetFull fits) s c.args.log.now.acts new says) (sym c.self.view_is) goes))

pub invariant_of-self-in_err-accept_publish : goal.invariant_of-self-in_err-accept_publish
invariant_of-self-in_err-accept_publish g c =
    let h = c.self.inside in
    let on = on_seen h.config h.clock h.next_key h.tables c.args.self.now c.args.key c.self.view_is c.requires.up in
    kept_unhanded h.config h.clock h.next_key c.args.key h.tables c.reserve_delivery.new.tables c.self.invariant c.reserve_delivery.ensures.alike on.conn on.is c.args.publish
    c.accept_publish.new.tables c.in_err-accept_publish.ensures.err

pub returns-in_err-accept_publish-clause-err : goal.returns-in_err-accept_publish-clause-err
returns-in_err-accept_publish-clause-err g c =
    let h = c.self.inside in
    let on = on_seen h.config h.clock h.next_key h.tables c.args.self.now c.args.key c.self.view_is c.requires.up in
    err_any c.from_residual-in_err-accept_publish.result
    (same_unhanded h.config h.clock h.next_key c.args.key h.tables c.reserve_delivery.new.tables c.self.invariant c.reserve_delivery.ensures.alike on.conn on.is c.args.publish
    c.accept_publish.new.tables c.in_err-accept_publish.ensures.err ∙ c.self.view_is)

pub invariant_of-self-2 : goal.invariant_of-self-2
invariant_of-self-2 g c =
    let h = c.self.inside in
    let key = c.args.key in
    let m = c.args.publish in
    let on = on_seen h.config h.clock h.next_key h.tables c.args.self.now key c.self.view_is c.requires.up in
    let handed = subst (λ (s : HubState). IsReceived New m (end_of key s.sessions)) (sym c.self.view_is) c.requires.handed in
    c.deliver.ensures.keeps m.message h.config h.next_key
    (subst (λ k. IsKeptOf m.message k) (sym c.reserve_delivery.ensures.kept) (subst (λ (n : Message). IsKeptOf n c.in_ok-plan.plan.kept) c.into_message-message.ensures c.in_ok-plan.ensures.kept))
    (kept_handed h.config h.clock h.next_key key h.tables c.reserve_delivery.new.tables c.self.invariant c.reserve_delivery.ensures.alike on.conn on.is m handed
    c.accept_publish.new.tables (taken_as (publish_of c.into_message-message.result c.delivery-delivery.result) m c.args.key h.clock c.reserve_delivery.new.tables c.accept_publish.new.tables (same_publish c.args.publish c.into_message-message.result c.delivery-delivery.result c.into_message-message.ensures c.delivery-delivery.ensures.value) c.in_ok-accept_publish.ensures.ok))
    (subst (λ (s : HubState). publish_size m.message ≤ s.config.limits.most) (sym c.self.view_is) c.requires.within)

pub returns-clause-takes : goal.returns-clause-takes
returns-clause-takes g c = λ done conn fits.
    let h = c.self.inside in
    let t : HubTables = h.tables in
    let p : HubTables = c.reserve_delivery.new.tables in
    let u : HubTables = c.accept_publish.new.tables in
    let old : HubState = hub_of h.config h.clock h.next_key t in
    let here : HubState = hub_of h.config h.clock h.next_key u in
    let after : HubState = hub_of h.config h.clock h.next_key c.deliver.new.tables in
    let key = c.args.key in
    let m = c.args.publish in
    let s = c.in_ok-plan.plan in
    let on = on_seen h.config h.clock h.next_key t c.args.self.now key c.self.view_is c.requires.up in
    let handed = subst (λ (b : HubState). IsReceived New m (end_of key b.sessions)) (sym c.self.view_is) c.requires.handed in
    let a = taken_as (publish_of c.into_message-message.result c.delivery-delivery.result) m key h.clock p u (same_publish c.args.publish c.into_message-message.result c.delivery-delivery.result c.into_message-message.ensures c.delivery-delivery.ensures.value) c.in_ok-accept_publish.ensures.ok in
    let planned = subst (λ (n : Message). s.copies.items ≡ copies_of n old) c.into_message-message.ensures (c.in_ok-plan.ensures.copies h.config h.clock h.next_key) in
    let r = c.reserve_delivery.new.plan in
    let due : s.copies.items ≡ copies_of m.message here =
    planned ∙ sym (copies_handed h.config h.clock h.next_key key t p c.self.invariant c.reserve_delivery.ensures.alike on.conn on.is m handed u a) in
    let queued : HaveQueued (Some c.publish_answer.result) t.sessions.list u.sessions.list =
    subst (λ (a : QueuedAnswer). HaveQueued (Some a) t.sessions.list u.sessions.list) (sym c.publish_answer.ensures)
    (λ k. c.in_ok-accept_publish.ensures.outputs k
    ∙ ap (λ (b : List ℕ). answer_for (Some (publish_answer key c.delivery-delivery.result)) k + length b) (room_same_output k t.sessions.list p.sessions.list c.reserve_delivery.ensures.alike.list)) in
    let settles : Settles h.config (λ k. 0) u.sessions.list (copies_of m.message here) r.copies.items r.acts.items =
    subst (λ (cs : List (ℕ × Message)). Settles h.config (λ k. 0) u.sessions.list cs r.copies.items r.acts.items) due
    (settles_alike h.config (Some c.publish_answer.result) t.sessions.list u.sessions.list s.copies.items r.copies.items r.acts.items c.in_ok-plan.ensures.planned.apart
    (λ k. c.in_ok-accept_publish.ensures.books k ∙ room_same_books t.sessions.list p.sessions.list c.reserve_delivery.ensures.alike.list k)
    queued
    (c.in_ok-reserve_delivery.ensures.settles (ap Ok c.if-not-branch.false) old (has_sessions h.config h.clock h.next_key t c.self.invariant) (sym c.rules_of-rules.ensures))) in
    let room : true ≡ have_room (copies_of m.message old) old =
    enough_seen true m.message s.copies.items old old
    (sym c.if-not-branch.false ∙ c.in_ok-reserve_delivery.ensures.enough old (has_sessions h.config h.clock h.next_key t c.self.invariant) (sym c.rules_of-rules.ensures)) planned refl in
    let shared : Refines (deliver (acts.Took key m.message) m.message) here c.args.log.now.acts after c.deliver.new.log.acts =
    subst (λ (n : Message). Refines (deliver (acts.Took key n) m.message) here c.args.log.now.acts after c.deliver.new.log.acts) (ap (λ (x : Publication). x.message) (same_publish c.args.publish c.into_message-message.result c.delivery-delivery.result c.into_message-message.ensures c.delivery-delivery.ensures.value))
    (goes_as (acts.Took key c.into_message-message.result) m.message m.message here here after c.reserve_delivery.new.log.acts c.args.log.now.acts
    c.deliver.new.log.acts refl refl c.reserve_delivery.ensures.acts
    (c.deliver.ensures.goes m.message h.config h.clock h.next_key
    (subst (λ k. IsKeptOf m.message k) (sym c.reserve_delivery.ensures.kept) (subst (λ (n : Message). IsKeptOf n c.in_ok-plan.plan.kept) c.into_message-message.ensures c.in_ok-plan.ensures.kept))
    (kept_handed h.config h.clock h.next_key key t p c.self.invariant c.reserve_delivery.ensures.alike on.conn on.is m handed u a) settles)) in
    subst (λ (b : HubState). Refines (on_connected_packet conn key (packets.Publish m) fits) b c.args.log.now.acts after c.deliver.new.log.acts) c.self.view_is
    (handed_goes h.config h.clock h.next_key key t p c.self.invariant c.reserve_delivery.ensures.alike on.conn on.is m handed u a
    conn fits after c.args.log.now.acts c.deliver.new.log.acts (sym room) shared)
