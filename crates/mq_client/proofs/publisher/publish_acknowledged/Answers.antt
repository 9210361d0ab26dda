use Rattle.std.proofs.Common.{refl, sym}
use Rattle.std.proofs.lemmas.Result.{err_from_is_err_and}
use Rattle.mq_client.specs.declared.error.ClientError.TheVariants.{Lost}
use Rattle.mq_client.proofs.Published.{all_asked, first_halts, first_heard, first_none, first_more, first_stops, first_told}
use Rattle.mq_client.proofs.publisher.publish_acknowledged.Goals as goal

pub loop-init : goal.loop-init
loop-init g c = first_none _ _

pub loop-preserved : goal.loop-preserved
loop-preserved g c =
    let heard = first_heard _ _ _ _ _ _ _ c.loop.invariant c.in_ok-listen.ensures.2 c.in_ok-listen.ensures.3 in
    first_told _ _ _ _ _ _ _ (first_more _ _ _ _ _ _ heard c.publish_more.ensures.went) c.write.ensures.went

pub returns-in_err-listen-clause-err : goal.returns-in_err-listen-clause-err
returns-in_err-listen-clause-err g c =
    let p = err_from_is_err_and c.from_residual.result c.from_residual.ensures.1 in
    rw (p.1, p.2) (first_halts _ _ _ _ _ _ (first_told _ _ _ _ _ _ _ c.loop.invariant c.in_err-listen.ensures.2) c.in_err-listen.ensures.3)

pub returns-in_err-publish_more-clause-err : goal.returns-in_err-publish_more-clause-err
returns-in_err-publish_more-clause-err g c =
    let p = err_from_is_err_and c.from_residual-in_err-publish_more.result c.from_residual-in_err-publish_more.ensures.1 in
    let heard = first_heard _ _ _ _ _ _ _ c.loop.invariant c.in_ok-listen.ensures.2 c.in_ok-listen.ensures.3 in
    let more = first_more _ _ _ _ _ _ heard c.publish_more.ensures.went in
    rw (p.1, p.2) (first_stops _ _ _ _ _ c.in_err-publish_more.ensures.goes_on more)

pub returns-in_err-write-clause-err : goal.returns-in_err-write-clause-err
returns-in_err-write-clause-err g c =
    let p = err_from_is_err_and c.from_residual-in_err-write.result c.from_residual-in_err-write.ensures.1 in
    let heard = first_heard _ _ _ _ _ _ _ c.loop.invariant c.in_ok-listen.ensures.2 c.in_ok-listen.ensures.3 in
    let more = first_told _ _ _ _ _ _ _ (first_more _ _ _ _ _ _ heard c.publish_more.ensures.went) c.write.ensures.went in
    rw (p.1, p.2) (first_stops _ _ _ _ _ c.in_err-write.ensures.goes_on more)

pub returns-then-is_idle-clause-ok : goal.returns-then-is_idle-clause-ok
returns-then-is_idle-clause-ok g c =
    let heard = first_heard _ _ _ _ _ _ _ c.loop.invariant c.in_ok-listen.ensures.2 c.in_ok-listen.ensures.3 in
    let more = first_told _ _ _ _ _ _ _ (first_more _ _ _ _ _ _ heard c.publish_more.ensures.went) c.write.ensures.went in
    all_asked _ _ c.args.texts.now _ c.if-next-texts.true more (sym c.if-is_up.ensures) (c.if-is_idle.ensures.0 refl)

pub returns-clause-err : goal.returns-clause-err
returns-clause-err g c = first_stops _ _ _ _ Lost refl c.loop.invariant
