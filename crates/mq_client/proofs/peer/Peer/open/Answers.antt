use Rattle.std.proofs.Common.{[], ◌∷◌, refl}
use Rattle.std.proofs.lemmas.Result.{err_from_is_err_and}
use Rattle.mq_client.specs.Course.{Connects, Connect, Opening}
use Rattle.mq_client.proofs.Courses.{first_nothing, first_of, on_ok, starved, stepped, went_then}
use Rattle.mq_client.proofs.peer.Peer.open.Goals as goal

pub returns-clause-ok : goal.returns-clause-ok
returns-clause-ok g c =
    let ok = c.in_ok-connect.ensures in
    let connects : Connects c.now-now.result c.args.clean c.self.inside.client c.connect.new.self = record { end = ok.end; out = ok.output; held = ok.held; moment = ok.last_activity } in
    rw (← c.self.view_is) (on_ok _ _ (went_then _ _ _ (Opening c.args.clean ∷ []) [] [] [] [] [] (stepped (Connect c.now-now.result c.args.clean) _ _ _ _ _ _ _ _ refl refl refl c.now-now.ensures connects) c.write.ensures.went))

pub returns-clause-err : goal.returns-clause-err
returns-clause-err g c =
    let ok = c.in_ok-connect.ensures in
    let connects : Connects c.now-now.result c.args.clean c.self.inside.client c.connect.new.self = record { end = ok.end; out = ok.output; held = ok.held; moment = ok.last_activity } in
    rw (← c.self.view_is) (first_of _ _ _ _ (went_then _ _ _ (Opening c.args.clean ∷ []) [] [] [] [] [] (stepped (Connect c.now-now.result c.args.clean) _ _ _ _ _ _ _ _ refl refl refl c.now-now.ensures connects) c.write.ensures.went))

pub returns-in_err-connect-clause-err : goal.returns-in_err-connect-clause-err
returns-in_err-connect-clause-err g c =
    let p = err_from_is_err_and c.from_residual.result c.from_residual.ensures.1 in
    rw p.1 (rw c.in_err-connect.ensures.err (rw (← c.self.view_is) (first_nothing _ _ _ (starved c.now-now.result _ _ _ _ _ _ _ c.now-now.ensures))))
