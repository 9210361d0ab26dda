use Rattle.std.proofs.Common.{◌≡◌, ◌≤◌, ◌∙◌, ℕ, List, [], ◌∷◌, None, true, false, Ok, ap, refl, sym, subst}
use Rattle.mq_end.specs.Sizes.{publish_size}
use Rattle.mq_route.specs.declared.act.Act.TheVariants.{Will}
use Rattle.mq_route.specs.Hub.{HubState, copies_of}
use Rattle.mq_packet.specs.declared.message.Message.{Message}
use Rattle.std.specs.List.{AllByRecursion}
use Rattle.mq_route.specs.declared.config.HubConfig.{HubConfig}
use Rattle.mq_tables.specs.Retained.{IsKeptOf}
use Rattle.mq_tables.specs.Tables.{HubTables}
use Rattle.mq_tables.proofs.FirstPackets.{err_any}
use Rattle.mq_hub.specs.Inside.Placement.{HasSessions, Settles}
use Rattle.mq_hub.specs.Inside.QueuedAnswer.{answer_for}
use Rattle.mq_hub.specs.Inside.View.{hub_of}
use Rattle.mq_hub.proofs.MissedCopies.{all_settled, room_queues_none, room_same_books, settles_alike}
use Rattle.mq_hub.proofs.TableParts.{alike_same, spares_alike, spares_none, spares_shared, within_limit}
use Rattle.mq_hub.proofs.RoomToConnect.{copies_fit, leaves_ready, leaves_same, leaves_shared}
use Rattle.mq_hub.proofs.DeliveryInvariant.{enough_seen, goes_as, has_sessions, hub_alike, kept_alike}
use Rattle.mq_hub.proofs.will.delivery.try_deliver.Goals as goal

pub reserve_delivery-requires-clause-due : goal.reserve_delivery-requires-clause-due
reserve_delivery-requires-clause-due g c =
    let hubs = c.requires.hubs in
    c.in_ok-plan.ensures.due hubs.config hubs.next_key hubs.keeps
    (within_limit hubs.config hubs.next_key (publish_size c.args.message) c.args.tables.now hubs.keeps c.requires.within)

pub returns-in_err-plan-clause-err : goal.returns-in_err-plan-clause-err
returns-in_err-plan-clause-err g c = err_any c.from_residual.result (alike_same c.args.tables.now, refl)

pub returns-in_err-plan-clause-spares : goal.returns-in_err-plan-clause-spares
returns-in_err-plan-clause-spares g c = spares_none c.args.tables.now

pub returns-in_err-reserve_delivery-clause-err : goal.returns-in_err-reserve_delivery-clause-err
returns-in_err-reserve_delivery-clause-err g c = err_any c.from_residual-in_err-reserve_delivery.result (c.reserve_delivery.ensures.alike, c.reserve_delivery.ensures.acts)

pub returns-in_err-reserve_delivery-clause-spares : goal.returns-in_err-reserve_delivery-clause-spares
returns-in_err-reserve_delivery-clause-spares g c = spares_alike c.args.tables.now c.reserve_delivery.new.tables c.reserve_delivery.ensures.alike c.reserve_delivery.ensures.sessions

pub returns-then-not-branch-clause-enough : goal.returns-then-not-branch-clause-enough
returns-then-not-branch-clause-enough g c = λ config clock next_key kept same_rules.
    let t : HubTables = c.args.tables.now in
    let s = c.in_ok-plan.plan in
    let h : HubState = hub_of config clock next_key t in
    enough_seen false c.args.message s.copies.items h h
    (sym c.if-not-branch.true ∙ c.in_ok-reserve_delivery.ensures.enough h (has_sessions config clock next_key t kept) same_rules)
    (c.in_ok-plan.ensures.copies config clock next_key) refl

pub returns-then-not-branch-clause-full : goal.returns-then-not-branch-clause-full
returns-then-not-branch-clause-full g c = λ e. (c.reserve_delivery.ensures.alike, c.reserve_delivery.ensures.acts)

pub returns-then-not-branch-clause-spares : goal.returns-then-not-branch-clause-spares
returns-then-not-branch-clause-spares g c = spares_alike c.args.tables.now c.reserve_delivery.new.tables c.reserve_delivery.ensures.alike c.reserve_delivery.ensures.sessions

pub returns-clause-goes : goal.returns-clause-goes
returns-clause-goes g c = λ e config clock next_key kept same_rules.
    let t : HubTables = c.args.tables.now in
    let p : HubTables = c.reserve_delivery.new.tables in
    let s = c.in_ok-plan.plan in
    let m = c.args.message in
    let same = hub_alike config clock next_key t p c.reserve_delivery.ensures.alike in
    let here : HubState = hub_of config clock next_key p in
    let r = c.reserve_delivery.new.plan in
    let due : s.copies.items ≡ copies_of m here = c.in_ok-plan.ensures.copies config clock next_key ∙ sym (ap (copies_of m) same) in
    let settles : Settles config (λ k. 0) p.sessions.list (copies_of m here) r.copies.items r.acts.items =
    subst (λ (cs : List (ℕ × Message)). Settles config (λ k. 0) p.sessions.list cs r.copies.items r.acts.items) due
    (settles_alike config None t.sessions.list p.sessions.list s.copies.items r.copies.items r.acts.items c.in_ok-plan.ensures.planned.apart
    (room_same_books t.sessions.list p.sessions.list c.reserve_delivery.ensures.alike.list)
    (room_queues_none t.sessions.list p.sessions.list c.reserve_delivery.ensures.alike.list)
    (c.in_ok-reserve_delivery.ensures.settles (ap Ok c.if-not-branch.false) (hub_of config clock next_key t) (has_sessions config clock next_key t kept) same_rules)) in
    goes_as (Will c.args.key m) m m here (hub_of config clock next_key t) (hub_of config clock next_key c.deliver.new.tables) c.reserve_delivery.new.log.acts
    c.args.log.now.acts c.deliver.new.log.acts refl same c.reserve_delivery.ensures.acts
    (c.deliver.ensures.goes m config clock next_key (subst (λ k. IsKeptOf m k) (sym c.reserve_delivery.ensures.kept) c.in_ok-plan.ensures.kept)
    (kept_alike config next_key t p c.reserve_delivery.ensures.alike kept) settles)

pub returns-clause-enough : goal.returns-clause-enough
returns-clause-enough g c = λ config clock next_key kept same_rules.
    let t : HubTables = c.args.tables.now in
    let s = c.in_ok-plan.plan in
    let h : HubState = hub_of config clock next_key t in
    enough_seen true c.args.message s.copies.items h h
    (sym c.if-not-branch.false ∙ c.in_ok-reserve_delivery.ensures.enough h (has_sessions config clock next_key t kept) same_rules)
    (c.in_ok-plan.ensures.copies config clock next_key) refl

pub returns-clause-spares : goal.returns-clause-spares
returns-clause-spares g c =
    let m = c.args.message in
    spares_shared m c.reserve_delivery.new.plan.copies.items c.args.tables.now c.reserve_delivery.new.tables c.deliver.new.tables c.reserve_delivery.ensures.alike c.reserve_delivery.ensures.sessions
    c.requires.within (λ config next_key kept within. c.deliver.ensures.keeps m config next_key (subst (λ k. IsKeptOf m k) (sym c.reserve_delivery.ensures.kept) c.in_ok-plan.ensures.kept) kept within)
    c.deliver.ensures.list c.deliver.ensures.sessions c.deliver.ensures.connections

pub returns-in_err-plan-clause-connect_end : goal.returns-in_err-plan-clause-connect_end
returns-in_err-plan-clause-connect_end g c = leaves_same (c.args.message ∷ []) c.args.tables.now

pub returns-in_err-reserve_delivery-clause-connect_end : goal.returns-in_err-reserve_delivery-clause-connect_end
returns-in_err-reserve_delivery-clause-connect_end g c =
    let p = c.reserve_delivery.ensures in
    leaves_ready c.args.message c.args.tables.now c.reserve_delivery.new.tables c.requires.hubs p.alike.list p.still

pub returns-then-not-branch-clause-connect_end : goal.returns-then-not-branch-clause-connect_end
returns-then-not-branch-clause-connect_end g c =
    let p = c.reserve_delivery.ensures in
    leaves_ready c.args.message c.args.tables.now c.reserve_delivery.new.tables c.requires.hubs p.alike.list p.still

pub returns-clause-connect_end : goal.returns-clause-connect_end
returns-clause-connect_end g c =
    let p = c.reserve_delivery.ensures in
    let t = c.args.tables.now in
    let s = c.in_ok-plan.plan in
    let r = c.reserve_delivery.new.plan in
    let hubs = c.requires.hubs in
    let was = c.in_ok-reserve_delivery.ensures.ready (ap Ok c.if-not-branch.false) in
    let config : HubConfig = record hubs.config { when_full = c.args.rules.when_full; most_stored = c.args.rules.most_stored; most_waiting = c.args.rules.most_waiting } in
    let h : HubState = hub_of config 0 hubs.next_key t in
    let has : HasSessions t.sessions.list h = record { sessions = refl; capacity = (has_sessions hubs.config 0 hubs.next_key t hubs.keeps).capacity } in
    let small = subst (λ (cs : List (ℕ × Message)). AllByRecursion (λ x. publish_size x.1 ≤ publish_size c.args.message) cs)
    (sym (c.in_ok-plan.ensures.copies config 0 hubs.next_key)) (copies_fit c.args.message h) in
    leaves_shared c.args.message t c.reserve_delivery.new.tables hubs p.alike.list p.still c.size_laws.ensures r.copies.items c.deliver.new.tables c.requires.within
    was.apart
    (all_settled (λ x. publish_size x.1 ≤ publish_size c.args.message) config (answer_for None) t.sessions.list s.copies.items r.copies.items r.acts.items c.in_ok-plan.ensures.planned.apart
    (c.in_ok-reserve_delivery.ensures.settles (ap Ok c.if-not-branch.false) h has refl) small)
    c.deliver.ensures.list
