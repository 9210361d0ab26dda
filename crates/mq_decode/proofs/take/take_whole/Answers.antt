use Rattle.std.proofs.lemmas.Result.{err_from_is_err_and}
use Rattle.mq_decode.proofs.take.take_whole.Goals as goal

pub returns-in_err-append_held-clause-err : goal.returns-in_err-append_held-clause-err
returns-in_err-append_held-clause-err c =
    let p = err_from_is_err_and c.from_residual.result c.from_residual.ensures.1 in
    rw (p.1, p.2) (rw c.lacks.ensures.bytes at c.in_err-append_held.ensures.err)
