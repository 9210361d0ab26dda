use Rattle.std.proofs.lemmas.Result.{err_from_is_err_and}
use Rattle.mq_client.specs.Publishing.{publishes}
use Rattle.mq_client.proofs.Published.{halts_then, left_then, opened_all, opened_halts, opens_halts}
use Rattle.mq_client.proofs.publisher.publish_all.Goals as goal

pub returns-in_err-open-clause-err : goal.returns-in_err-open-clause-err
returns-in_err-open-clause-err g c =
    let p = err_from_is_err_and c.from_residual.result c.from_residual.ensures.1 in
    rw (p.1, p.2) (opens_halts _ _ c.args.clean c.args.texts.now _ c.in_err-open.ensures.goes_on c.in_err-open.ensures.err)

pub returns-in_err-publish_acknowledged-clause-err : goal.returns-in_err-publish_acknowledged-clause-err
returns-in_err-publish_acknowledged-clause-err g c =
    let p = err_from_is_err_and c.from_residual-in_err-publish_acknowledged.result c.from_residual-in_err-publish_acknowledged.ensures.1 in
    rw (p.1, p.2) (opened_halts _ _ _ c.args.clean c.args.texts.now _ c.in_ok-open.ensures.ok c.in_err-publish_acknowledged.ensures.err)

pub returns-clause-ok : goal.returns-clause-ok
returns-clause-ok g c = left_then _ _ _ _ c.args.clean c.args.texts.now (opened_all _ _ _ c.args.clean c.args.texts.now c.in_ok-open.ensures.ok c.in_ok-publish_acknowledged.ensures.ok) c.leave.ensures.leaves

pub returns-clause-err : goal.returns-clause-err
returns-clause-err g c = halts_then _ _ _ _ (publishes c.args.clean c.args.texts.now) (opened_all _ _ _ c.args.clean c.args.texts.now c.in_ok-open.ensures.ok c.in_ok-publish_acknowledged.ensures.ok) c.leave.ensures.went c.leave.ensures.goes_on
