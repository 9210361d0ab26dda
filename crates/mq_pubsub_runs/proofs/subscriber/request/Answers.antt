use Rattle.mq_pubsub_runs.proofs.Watchings.{request_err, request_ok}
use Rattle.mq_pubsub_runs.proofs.subscriber.request.Goals as goal

pub returns-clause-ok : goal.returns-clause-ok
returns-clause-ok g c = request_ok c.unsubscribe_from.result _ _ _ _ _ c.in_ok-subscribe_to.ensures.ok c.unsubscribe_from.ensures.ok

pub returns-clause-err : goal.returns-clause-err
returns-clause-err g c = request_err c.unsubscribe_from.result _ _ _ _ _ c.in_ok-subscribe_to.ensures.ok c.unsubscribe_from.ensures.err
