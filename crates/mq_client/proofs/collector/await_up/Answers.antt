use Rattle.std.proofs.Common.{[], refl}
use Rattle.std.proofs.KnownBytes.{Keeps-refl, Keeps-trans}
use Rattle.std.proofs.lemmas.Result.{err_from_is_err_and}
use Rattle.mq_client.specs.declared.error.ClientError.TheVariants.{Lost}
use Rattle.mq_client.proofs.Collected.{keeps_as, keeps_then, keeps_went}
use Rattle.mq_client.proofs.Courses.{went_none}
use Rattle.mq_client.proofs.collector.await_up.Goals as goal

pub returns-in_err-keep-clause-kept : goal.returns-in_err-keep-clause-kept
returns-in_err-keep-clause-kept g c =
    let p = err_from_is_err_and c.from_residual.result c.from_residual.ensures.1 in
    rw (p.1, p.2) (keeps_then _ _ _ [] [] _ _ _ _ c.loop.invariant.0 c.in_err-keep.ensures.kept)

pub returns-in_err-keep-clause-silent : goal.returns-in_err-keep-clause-silent
returns-in_err-keep-clause-silent g c = Keeps-trans _ _ _ c.loop.invariant.1 c.keep.ensures.silent

pub returns-then-is_up-clause-kept : goal.returns-then-is_up-clause-kept
returns-then-is_up-clause-kept g c = keeps_then _ _ _ [] [] _ _ _ _ c.loop.invariant.0 c.in_ok-keep.ensures.kept

pub returns-then-is_up-clause-silent : goal.returns-then-is_up-clause-silent
returns-then-is_up-clause-silent g c = Keeps-trans _ _ _ c.loop.invariant.1 c.keep.ensures.silent

pub returns-clause-kept : goal.returns-clause-kept
returns-clause-kept g c = keeps_as _ _ [] _ _ Lost refl c.loop.invariant.0

pub loop-preserved : goal.loop-preserved
loop-preserved g c = (keeps_then _ _ _ [] [] _ _ _ _ c.loop.invariant.0 c.in_ok-keep.ensures.kept, Keeps-trans _ _ _ c.loop.invariant.1 c.keep.ensures.silent)

pub loop-init : goal.loop-init
loop-init g c = (keeps_went _ _ _ _ _ (went_none _) refl, Keeps-refl _)
