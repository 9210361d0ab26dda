use Rattle.mq_pubsub_runs.proofs.Watchings.{once_missed}
use Rattle.mq_pubsub_runs.proofs.subscriber.subscribe_next.Goals as goal

pub returns-in_default : goal.returns-in_default
returns-in_default g c = once_missed _ _ _ _ _ _ c.missed.ensures
