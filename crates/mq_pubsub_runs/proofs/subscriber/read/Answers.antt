use Rattle.std.proofs.Common.{option_to_list}
use Rattle.std.proofs.lemmas.Result.{err_from_is_err_and}
use Rattle.mq_pubsub_runs.proofs.Watchings.{unprinted, until_connection, watched_read, watched_sent}
use Rattle.mq_pubsub_runs.proofs.subscriber.read.Goals as goal

pub returns-in_err-progress-clause-err : goal.returns-in_err-progress-clause-err
returns-in_err-progress-clause-err g c =
    let p = err_from_is_err_and c.from_residual.result c.from_residual.ensures.1 in
    rw p.1 (until_connection _ _ _ _ _ _ _ _ p.2 (watched_sent _ _ _ _ _ c.in_err-progress.ensures.lost))

pub returns-in-Ok-clause-ok : goal.returns-in-Ok-clause-ok
returns-in-Ok-clause-ok g c =
    let shown = c.in-Ok.ensures in
    watched_read _ _ _ _ _ _ _ c.in_ok-progress.progress.happenings (option_to_list c.in_ok-progress.progress.closed) shown.0 c.in_ok-progress.ensures.went c.hear.ensures.silent (rw c.as_slice-happenings.ensures at shown.1) shown.2

pub returns-in-Err-clause-err : goal.returns-in-Err-clause-err
returns-in-Err-clause-err g c =
    unprinted _ _ _ _ _ c.in_ok-progress.progress.happenings (option_to_list c.in_ok-progress.progress.closed) c.in_ok-progress.ensures.went c.hear.ensures.silent
