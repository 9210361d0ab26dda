use Rattle.mq_pubsub_runs.proofs.Postings.{once_missed}
use Rattle.mq_pubsub_runs.proofs.publisher.publish_next.Goals as goal

pub returns-in_default-clause-ends : goal.returns-in_default-clause-ends
returns-in_default-clause-ends g c = once_missed _ _ _ _ _ _ c.missed.ensures
