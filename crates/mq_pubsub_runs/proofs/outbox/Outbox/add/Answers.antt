use Rattle.std.proofs.Common.{[]}
use Rattle.std.proofs.lemmas.Result.{err_from_is_err_and}
use Rattle.mq_client.proofs.Courses.{went_none}
use Rattle.mq_pubsub_runs.proofs.Postings.{fills_none, fills_taken}
use Rattle.mq_pubsub_runs.proofs.outbox.Outbox.add.Goals as goal

pub returns-then-not-is_up-clause-ok : goal.returns-then-not-is_up-clause-ok
returns-then-not-is_up-clause-ok g c = fills_none _ _ _ _

pub returns-then-output-ge-MOST_OUTPUT-clause-ok : goal.returns-then-output-ge-MOST_OUTPUT-clause-ok
returns-then-output-ge-MOST_OUTPUT-clause-ok g c = fills_none _ _ _ _

pub returns-in_err-why-clause-err : goal.returns-in_err-why-clause-err
returns-in_err-why-clause-err g c =
    let p = err_from_is_err_and c.from_residual.result c.from_residual.ensures.1 in
    rw p.1 ([], went_none _)

pub returns-in-Some-clause-ok : goal.returns-in-Some-clause-ok
returns-in-Some-clause-ok g c =
    let taken = c.in_ok-why.ensures.taken in
    rw c.refill.ensures.unwritten (fills_taken _ _ _ _ _ _ taken.0 taken.1 taken.2)
