use Rattle.std.proofs.Common.{sym, ◌∙◌}
use Rattle.std.proofs.lemmas.Result.{err_from_is_err_and}
use Rattle.mq_pubsub_runs.proofs.Postings.{fills_broke, fills_sent, part_broke, until_connection}
use Rattle.mq_pubsub_runs.proofs.publisher.send.Goals as goal

pub returns-in-Err-clause-err : goal.returns-in-Err-clause-err
returns-in-Err-clause-err g c = part_broke _ _ c.in-Err.ensures.err.0 c.in-Err.ensures.err.1

pub returns-in_err-flush-clause-err : goal.returns-in_err-flush-clause-err
returns-in_err-flush-clause-err g c =
    let p = err_from_is_err_and c.from_residual.result c.from_residual.ensures.1 in
    rw (p.1, p.2, c.flush.ensures.next)
    (until_connection _ _ _ _ _ _ _ _ _ c.in_err-flush.ensures.stop
    (fills_broke _ _ _ _ _ _ _ _ _ _ _ c.in-Ok.ensures.ok c.flush.ensures.went (λ e. sym c.fill.ensures.lost ∙ c.in_err-flush.ensures.lost e) c.in_err-flush.ensures.unwritten))

pub returns-clause-ok : goal.returns-clause-ok
returns-clause-ok g c =
    rw (c.flush.ensures.next, c.in_ok-flush.ensures.written, c.fill.ensures.lost)
    (fills_sent _ _ _ _ _ _ _ _ _ _ c.in-Ok.ensures.ok c.flush.ensures.went c.in_ok-flush.ensures.all)
