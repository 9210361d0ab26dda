use Rattle.std.proofs.lemmas.Result.{err_from_is_err_and}
use Rattle.mq_pubsub_runs.proofs.Watchings.{Watched-append, left_ends, until_connection, until_then, watched_opened, watched_then_sent}
use Rattle.mq_pubsub_runs.proofs.subscriber.subscribe_over.Goals as goal

pub loop-init : goal.loop-init
loop-init g c = watched_opened _ _ _ _ _ c.open.ensures.went

pub loop-preserved : goal.loop-preserved
loop-preserved g c = Watched-append _ _ _ _ _ _ _ c.loop.invariant _ _ _ c.in_ok-attend.ensures.ok

pub returns-in_err-open : goal.returns-in_err-open
returns-in_err-open g c =
    let p = err_from_is_err_and c.from_residual.result c.from_residual.ensures.1 in
    rw (p.1, p.2) (until_connection _ _ _ _ _ _ _ _ c.in_err-open.ensures.stop (watched_opened _ _ _ _ _ c.open.ensures.went))

pub returns-in_err-attend : goal.returns-in_err-attend
returns-in_err-attend g c =
    let p = err_from_is_err_and c.from_residual-in_err-attend.result c.from_residual-in_err-attend.ensures.1 in
    rw (p.1, p.2) (until_then _ _ _ _ _ _ _ _ _ _ _ c.loop.invariant c.in_err-attend.ensures.err)

pub returns-then-inbox : goal.returns-then-inbox
returns-then-inbox g c =
    left_ends _ _ _ _ _ _ _ _ _ (Watched-append _ _ _ _ _ _ _ c.loop.invariant _ _ _ c.in_ok-attend.ensures.ok) c.if-inbox.true c.leave.ensures.went c.leave.ensures.stop

pub returns-then-is_over : goal.returns-then-is_over
returns-then-is_over g c =
    until_connection _ _ _ _ _ _ _ _ c.give_up.ensures.stop (watched_then_sent _ _ _ _ _ _ _ _ (Watched-append _ _ _ _ _ _ _ c.loop.invariant _ _ _ c.in_ok-attend.ensures.ok) c.give_up.ensures.went)

pub returns : goal.returns
returns g c = c.loop.invariant
