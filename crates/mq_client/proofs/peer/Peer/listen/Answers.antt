use Rattle.std.proofs.Common.{[], option_to_list}
use Rattle.std.proofs.lemmas.Result.{err_from_is_err_and}
use Rattle.mq_client.proofs.Courses.{reports_none, went_still}
use Rattle.mq_client.proofs.peer.Peer.listen.Goals as goal

pub returns-in_err-progress : goal.returns-in_err-progress
returns-in_err-progress g c =
    let p = err_from_is_err_and c.from_residual.result c.from_residual.ensures.1 in
    rw (p.1, p.2) ([], [], c.in_err-progress.ensures.lost, reports_none _ c.in_err-progress.ensures.goes_on)

pub returns : goal.returns
returns g c = (
  c.in_ok-progress.progress.happenings,
  option_to_list c.in_ok-progress.progress.closed,
  went_still _ _ _ [] c.in_ok-progress.progress.happenings (option_to_list c.in_ok-progress.progress.closed) c.in_ok-progress.ensures.went c.answer.ensures.went,
  c.answer.ensures.closes,
)
