use Rattle.std.proofs.Common.{refl, ◌∙◌}
use Rattle.std.proofs.lemmas.Result.{err_from_is_err_and}
use Rattle.mq_pubsub_runs.proofs.Postings.{fills_none, fills_then, part_then}
use Rattle.mq_pubsub_runs.proofs.outbox.Outbox.fill.Goals as goal

pub loop-init : goal.loop-init
loop-init g c = (fills_none _ _ _ _, refl, λ remembers. remembers)

pub loop-preserved : goal.loop-preserved
loop-preserved g c = (
  fills_then _ _ _ _ _ _ _ _ _ _ _ _ c.loop.invariant.0 c.in_ok-why.ensures.ok,
  c.add.ensures.lost ∙ c.loop.invariant.1,
  λ remembers. c.add.ensures.remembers (c.loop.invariant.2 remembers),
)

pub returns-in_err-why-clause-err : goal.returns-in_err-why-clause-err
returns-in_err-why-clause-err g c =
    let p = err_from_is_err_and c.from_residual.result c.from_residual.ensures.1 in
    rw p.1 (part_then _ _ _ _ _ _ _ _ _ c.loop.invariant.0 c.in_err-why.ensures.err.0 c.in_err-why.ensures.err.1)

pub returns-in-Some-clause-ok : goal.returns-in-Some-clause-ok
returns-in-Some-clause-ok g c = fills_then _ _ _ _ _ _ _ _ _ _ _ _ c.loop.invariant.0 c.in_ok-why.ensures.ok
