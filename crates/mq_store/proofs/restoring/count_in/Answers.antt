use Rattle.std.proofs.Common.{◌≡◌, List, length, ap, arith}
use Rattle.mq_route.specs.declared.event.HubEvent.{HubEvent}
use Rattle.mq_durable.specs.Recorded.{events_in}
use Rattle.mq_durable.proofs.Entries.{found}
use Rattle.mq_store.proofs.restoring.count_in.Goals as goal

pub returns-in-Ok : goal.returns-in-Ok
returns-in-Ok c =
    let is : length (events_in c.args.entry.now) ≡ length c.in-Ok.events.items =
    ap (λ (l : List HubEvent). length l) (found c.record_laws.ensures c.in-Ok.events.items c.args.entry.now c.in-Ok.ensures.entry) in
    omega arith
