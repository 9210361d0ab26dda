use Rattle.std.proofs.Common.{[], ◌∷◌, refl, Ok}
use Rattle.std.proofs.lemmas.Result.{err_from_is_err_and}
use Rattle.mq_client.specs.Course.{Opening}
use Rattle.mq_client.specs.Collecting.{Keeps}
use Rattle.mq_client.proofs.Collected.{first_all, keeps_first, keeps_then, keeps_went, unack_first, unack_reads}
use Rattle.mq_client.proofs.Courses.{on_err, on_ok}
use Rattle.mq_client.proofs.collector.rise.Goals as goal

pub returns-in_err-open-clause-err : goal.returns-in_err-open-clause-err
returns-in_err-open-clause-err g c =
    let p = err_from_is_err_and c.from_residual.result c.from_residual.ensures.1 in
    rw (p.1, p.2) (keeps_first _ _ _ _ _ c.in_err-open.ensures.err c.in_err-open.ensures.goes_on)

pub returns-clause-ok : goal.returns-clause-ok
returns-clause-ok g c =
    let opened : Keeps c.args.peer.now c.open.new.self (Opening c.args.clean ∷ []) c.args.kept.now.items c.args.kept.now.items (Ok tt) = keeps_went _ _ _ _ _ c.in_ok-open.ensures.ok refl in
    on_ok _ _ (keeps_then _ _ _ (Opening c.args.clean ∷ []) [] _ _ _ _ opened c.await_up.ensures.kept)

pub returns-clause-err : goal.returns-clause-err
returns-clause-err g c =
    let opened : Keeps c.args.peer.now c.open.new.self (Opening c.args.clean ∷ []) c.args.kept.now.items c.args.kept.now.items (Ok tt) = keeps_went _ _ _ _ _ c.in_ok-open.ensures.ok refl in
    on_err _ _ (first_all _ _ _ _ _ _ (keeps_then _ _ _ (Opening c.args.clean ∷ []) [] _ _ _ _ opened c.await_up.ensures.kept))

pub returns-in_err-open-clause-unacknowledged : goal.returns-in_err-open-clause-unacknowledged
returns-in_err-open-clause-unacknowledged g c = unack_first _ _ _ c.in_err-open.ensures.err

pub returns-clause-unacknowledged : goal.returns-clause-unacknowledged
returns-clause-unacknowledged g c = unack_reads _ _ _ (Opening c.args.clean ∷ []) _ _ _ c.in_ok-open.ensures.ok c.await_up.ensures.kept c.await_up.ensures.silent
