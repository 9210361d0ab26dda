use Rattle.mq_client.proofs.Courses.{on_ok}
use Rattle.mq_pubsub_runs.proofs.Watchings.{if_err_connection, watched_answered}
use Rattle.mq_pubsub_runs.proofs.subscriber.attend.Goals as goal

pub returns-clause-ok : goal.returns-clause-ok
returns-clause-ok g c =
    on_ok _ _ (watched_answered _ c.is_due-is_due.result _ _ _ _ _ _ _ c.in_ok-closed.ensures.ok c.is_due-is_due.ensures c.answer.ensures.due c.answer.ensures.not_due)

pub returns-clause-err : goal.returns-clause-err
returns-clause-err g c =
    if_err_connection _ _ _ _ _ _ _ _ c.answer.ensures.stop (watched_answered _ c.is_due-is_due.result _ _ _ _ _ _ _ c.in_ok-closed.ensures.ok c.is_due-is_due.ensures c.answer.ensures.due c.answer.ensures.not_due)
