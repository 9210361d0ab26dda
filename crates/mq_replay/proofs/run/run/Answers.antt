use Rattle.std.proofs.Common.{ℕ, List, subst, ◌∙◌, arith}
use Rattle.std.proofs.lemmas.List.{take_all}
use Rattle.std.proofs.lemmas.Result.{err_from_is_err_and}
use Rattle.std.specs.Int.NonZero.{non_zero_u16_get}
use Rattle.mq_decode.specs.Limits.{Bounds}
use Rattle.mq_schedule.specs.declared.schedule.Step.{Step}
use Rattle.mq_replay.specs.Replay.{StepDoes}
use Rattle.mq_replay.proofs.Leading.{IsMade, all_made, cut_made, next_made}
use Rattle.mq_replay.proofs.run.run.Goals as goal

pub loop-step-preserved : goal.loop-step-preserved
loop-step-preserved g c =
    let s = c.args.schedule.now in
    let n = non_zero_u16_get s.capacity in
    let i = c.loop-step.invariant in
    let w = g.W.Write.contents in
    let v = c.loop-step.world in
    let e = c.step-item.result in
    let d = c.in_ok-advance.ensures.does in
    let at = rw c.deref-step-items.ensures.value at c.step-item.is in
    let does = subst (λ (z : Bounds). StepDoes z n e d.0 v.wired c.advance.new.world.wired) i.limit_is (subst (λ (z : ℕ). StepDoes v.limit z e d.0 v.wired c.advance.new.world.wired) i.capacity_is d.1) in
    record {
      made = next_made s.limits n s.steps.items c.loop-step.step-index e d.0 c.args.world.now.wired v.wired c.advance.new.world.wired (w c.args.output.now) (w c.loop-step.output) (w c.advance.new.output)
          (omega arith) at i.made does d.2;
      limit_is = c.advance.ensures.limit ∙ i.limit_is;
      capacity_is = c.advance.ensures.capacity ∙ i.capacity_is;
    }

pub returns-in_err-advance-clause-memory : goal.returns-in_err-advance-clause-memory
returns-in_err-advance-clause-memory g c =
    let p = err_from_is_err_and c.from_residual.result c.from_residual.ensures.1 in
    rw (p.1, p.2) (cut_made g.W.Write.contents c.args.schedule.now c.loop-step.step-index c.args.world.now.wired c.loop-step.world.wired c.args.output.now c.loop-step.output c.advance.new.output c.in_err-advance.field-0.0
    c.requires.new c.loop-step.invariant.made c.in_err-advance.ensures.memory)

pub returns-clause-printed : goal.returns-clause-printed
returns-clause-printed g c =
    let s = c.args.schedule.now in
    let w = g.W.Write.contents in
    let v = c.loop-step.world in
    let made = subst (λ (steps : List Step). IsMade s.limits (non_zero_u16_get s.capacity) steps c.args.world.now.wired v.wired (w c.args.output.now) (w c.loop-step.output))
    (take_all c.loop-step.step-index s.steps.items (omega arith)) c.loop-step.invariant.made in
    all_made s c.args.world.now.wired v.wired (w c.args.output.now) (w c.loop-step.output) (w c.write_totals.new.output) c.requires.new made c.in_ok-write_totals.ensures
