use Rattle.mq_pubsub_runs.specs.Posting.Posted.{Begins}
use Rattle.mq_pubsub_runs.proofs.Postings.{posted_heard}
use Rattle.mq_pubsub_runs.proofs.publisher.listen.Goals as goal

pub returns-then-eq-clause-posted : goal.returns-then-eq-clause-posted
returns-then-eq-clause-posted g c = Begins

pub returns-in_err-listen-clause-posted : goal.returns-in_err-listen-clause-posted
returns-in_err-listen-clause-posted g c = posted_heard _ _ _ _ c.listen.ensures.2

pub returns-clause-posted : goal.returns-clause-posted
returns-clause-posted g c = posted_heard _ _ _ _ c.listen.ensures.2
