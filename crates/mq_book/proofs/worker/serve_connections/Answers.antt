use Rattle.std.proofs.Common.{◌∙◌, arith}
use Rattle.mq_book.specs.Connection.{outside}
use Rattle.mq_book.proofs.WorkerCounts.{counts_broken, counts_closed}
use Rattle.mq_book.proofs.worker.serve_connections.Goals as goal

pub returns-in_err-serve_connection-clause-worker : goal.returns-in_err-serve_connection-clause-worker
returns-in_err-serve_connection-clause-worker g c = (counts_broken _ _ _ (outside _ _ _ _) (outside _ _ _ _) c.in_err-serve_connection.ensures.breaks).same ∙ c.loop-nth.invariant.0

pub returns-in_err-serve_connection-clause-count : goal.returns-in_err-serve_connection-clause-count
returns-in_err-serve_connection-clause-count g c =
    let more = (counts_broken _ _ _ (outside _ _ _ _) (outside _ _ _ _) c.in_err-serve_connection.ensures.breaks).more in omega (arith, more, c.loop-nth.invariant.1)

pub loop-nth-preserved : goal.loop-nth-preserved
loop-nth-preserved g c =
    let all = counts_closed _ _ _ (outside _ _ _ _) (outside _ _ _ _) c.in_ok-serve_connection.ensures.closes in
    (all.same ∙ c.loop-nth.invariant.0, omega (arith, all.more, c.loop-nth.invariant.1))
