use Rattle.mq_pubsub_programs.proofs.Deliveries.{on_follows}
use Rattle.mq_pubsub_programs.proofs.subscribing.subscribe_to.Goals as goal

pub returns : goal.returns
returns g c = (c.in_ok-end.end, c.report.ensures, on_follows _ _ _ _ _ c.options_of-options.ensures c.in_ok-end.ensures)
