use Rattle.std.proofs.Common.{◌≡◌, List, length, ap, ◌∙◌}
use Rattle.mq_route.specs.declared.event.HubEvent.{HubEvent}
use Rattle.mq_durable.specs.Recorded.{events_of}
use Rattle.mq_durable.specs.Inside.Recorded.{events_in_all}
use Rattle.mq_durable.proofs.Recoveries.{of_read}
use Rattle.mq_store.proofs.restoring.count_events.Goals as goal

pub returns : goal.returns
returns c =
    let is : events_in_all c.as_slice.result.now ≡ events_of c.args.journal.now =
    ap events_in_all c.as_slice.ensures.value
    ∙ of_read c.in_ok-contents.contents.entries.items c.args.journal.now c.in_ok-contents.ensures.entries in
    c.in_ok-events.ensures ∙ ap (λ (l : List HubEvent). length l) is
