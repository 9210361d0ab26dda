use Rattle.mq_pubsub_runs.proofs.Watchings.{first_still, first_whole}
use Rattle.mq_pubsub_runs.proofs.subscriber.answer.Goals as goal

pub returns-in_err-answer-clause-due : goal.returns-in_err-answer-clause-due
returns-in_err-answer-clause-due g c due = first_still _ _ _ _ (first_whole _ _ _ c.in_ok-request.ensures.ok) c.answer.ensures.went

pub returns-then-is_due-clause-due : goal.returns-then-is_due-clause-due
returns-then-is_due-clause-due g c due = first_still _ _ _ _ (first_whole _ _ _ c.in_ok-request.ensures.ok) c.answer.ensures.went
