use Rattle.std.proofs.Common.{refl}
use Rattle.std.proofs.lemmas.Result.{err_from_is_err_and}
use Rattle.mq_client.proofs.Courses.{starved}
use Rattle.mq_client.proofs.peer.Peer.tick.Goals as goal

pub returns-clause-ok : goal.returns-clause-ok
returns-clause-ok g c = rw (← c.self.view_is) (record { ticks = c.in_ok-tick.ensures.ok; coming = refl; written = refl; kept = refl; clock = c.now-now.ensures; line = refl })

pub returns-in_err-tick-clause-err : goal.returns-in_err-tick-clause-err
returns-in_err-tick-clause-err g c =
    let p = err_from_is_err_and c.from_residual.result c.from_residual.ensures.1 in
    rw p.1 (rw c.in_err-tick.ensures.err (rw (← c.self.view_is) (starved c.now-now.result _ _ _ _ _ _ _ c.now-now.ensures)))
