use Rattle.std.proofs.Common.{[], refl}
use Rattle.std.proofs.lemmas.Result.{err_from_is_err_and}
use Rattle.mq_client.specs.declared.error.ClientError.TheVariants.{Lost, NotSubscribed}
use Rattle.mq_client.proofs.Collected.{keeps_as, keeps_still, keeps_then, keeps_went, unack_more, unack_none, unack_send}
use Rattle.mq_client.proofs.Courses.{went_none}
use Rattle.mq_client.proofs.collector.await_answer.Goals as goal

pub returns-in_err-keep-clause-kept : goal.returns-in_err-keep-clause-kept
returns-in_err-keep-clause-kept g c =
    let p = err_from_is_err_and c.from_residual.result c.from_residual.ensures.1 in
    rw (p.1, p.2) (keeps_then _ _ _ [] [] _ _ _ _ c.loop.invariant.0 c.in_err-keep.ensures.kept)

pub returns-in_err-keep-clause-unacknowledged : goal.returns-in_err-keep-clause-unacknowledged
returns-in_err-keep-clause-unacknowledged g c = unack_more _ _ _ _ _ _ c.loop.invariant.1 c.in_err-keep.ensures.kept c.keep.ensures.silent

pub returns-in-Some-true-clause-kept : goal.returns-in-Some-true-clause-kept
returns-in-Some-true-clause-kept g c = keeps_then _ _ _ [] [] _ _ _ _ c.loop.invariant.0 c.in_ok-keep.ensures.kept

pub returns-in-Some-true-clause-unacknowledged : goal.returns-in-Some-true-clause-unacknowledged
returns-in-Some-true-clause-unacknowledged g c = unack_more _ _ _ _ _ _ c.loop.invariant.1 c.in_ok-keep.ensures.kept c.keep.ensures.silent

pub returns-in-Some-false-clause-kept : goal.returns-in-Some-false-clause-kept
returns-in-Some-false-clause-kept g c = keeps_as _ _ [] _ _ NotSubscribed refl (keeps_then _ _ _ [] [] _ _ _ _ c.loop.invariant.0 c.in_ok-keep.ensures.kept)

pub returns-in-Some-false-clause-unacknowledged : goal.returns-in-Some-false-clause-unacknowledged
returns-in-Some-false-clause-unacknowledged g c = unack_more _ _ _ _ _ _ c.loop.invariant.1 c.in_ok-keep.ensures.kept c.keep.ensures.silent

pub returns-in_err-send-clause-kept : goal.returns-in_err-send-clause-kept
returns-in_err-send-clause-kept g c =
    let p = err_from_is_err_and c.from_residual-in_err-send.result c.from_residual-in_err-send.ensures.1 in
    rw (p.1, p.2) (keeps_still _ _ _ _ _ _ _ (keeps_then _ _ _ [] [] _ _ _ _ c.loop.invariant.0 c.in_ok-keep.ensures.kept) c.send.ensures.went c.in_err-send.ensures.goes_on)

pub returns-in_err-send-clause-unacknowledged : goal.returns-in_err-send-clause-unacknowledged
returns-in_err-send-clause-unacknowledged g c =
    unack_send _ _ _ [] _ _ _ (keeps_then _ _ _ [] [] _ _ _ _ c.loop.invariant.0 c.in_ok-keep.ensures.kept) (unack_more _ _ _ _ _ _ c.loop.invariant.1 c.in_ok-keep.ensures.kept c.keep.ensures.silent)
    c.send.ensures.went c.as_slice-in-loop.ensures.value c.send.ensures.sent

pub returns-clause-kept : goal.returns-clause-kept
returns-clause-kept g c = keeps_as _ _ [] _ _ Lost refl c.loop.invariant.0

pub loop-preserved : goal.loop-preserved
loop-preserved g c =
    let kept = keeps_then _ _ _ [] [] _ _ _ _ c.loop.invariant.0 c.in_ok-keep.ensures.kept in (
      keeps_still _ _ _ _ _ _ _ kept c.send.ensures.went refl,
      unack_send _ _ _ [] _ _ _ kept (unack_more _ _ _ _ _ _ c.loop.invariant.1 c.in_ok-keep.ensures.kept c.keep.ensures.silent) c.send.ensures.went c.as_slice-in-loop.ensures.value c.send.ensures.sent,
    )

pub loop-init : goal.loop-init
loop-init g c = (keeps_went _ _ _ _ _ (went_none _) refl, unack_none _ _ [] [] (went_none _) refl)
