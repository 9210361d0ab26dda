use Rattle.mq_pubsub_runs.proofs.Postings.{first_whole, posted_opened}
use Rattle.mq_pubsub_runs.proofs.publisher.open.Goals as goal

pub returns-in_err-open-clause-posted : goal.returns-in_err-open-clause-posted
returns-in_err-open-clause-posted g c = posted_opened _ _ _ c.may_discard-clean.ensures c.in_err-open.ensures.err

pub returns-clause-posted : goal.returns-clause-posted
returns-clause-posted g c = posted_opened _ _ _ c.may_discard-clean.ensures (first_whole _ _ _ c.in_ok-open.ensures.ok)
