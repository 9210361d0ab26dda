use Rattle.std.proofs.Common.{[]}
use Rattle.mq_pubsub_runs.specs.Posting.Posted.{Begins}
use Rattle.mq_pubsub_runs.proofs.Postings.{posted_heard}
use Rattle.mq_pubsub_runs.proofs.publisher.finish.Goals as goal

pub returns-then-lost-gt0-clause-posted : goal.returns-then-lost-gt0-clause-posted
returns-then-lost-gt0-clause-posted g c = Begins

pub returns-in_err-leave-clause-posted : goal.returns-in_err-leave-clause-posted
returns-in_err-leave-clause-posted g c = posted_heard _ _ [] [] c.leave.ensures.went

pub returns-clause-posted : goal.returns-clause-posted
returns-clause-posted g c = posted_heard _ _ [] [] c.leave.ensures.went
