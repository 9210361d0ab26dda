use Rattle.std.proofs.Common.{ℕ, List, subst, ◌∙◌, arith}
use Rattle.std.proofs.lemmas.List.{take_all}
use Rattle.std.specs.Int.NonZero.{non_zero_u16_get}
use Rattle.mq_decode.specs.Limits.{Bounds}
use Rattle.mq_schedule.specs.declared.schedule.Step.{Step}
use Rattle.mq_replay.specs.Replay.{StepDoes}
use Rattle.mq_picture.proofs.Recording.{IsMade, all_made, next_made, none_made}
use Rattle.mq_picture.proofs.record.record_of.Goals as goal

pub loop-step-init : goal.loop-step-init
loop-step-init c =
    let s = c.args.schedule.now in
    let w = c.in_ok-world.world.wired in
    (w, c.in_ok-world.ensures.new, none_made s.limits (non_zero_u16_get s.capacity) w c.new.result.items c.new.ensures.items, c.in_ok-world.ensures.limit, c.in_ok-world.ensures.capacity)

pub loop-step-preserved : goal.loop-step-preserved
loop-step-preserved c =
    let s = c.args.schedule.now in
    let n = non_zero_u16_get s.capacity in
    let i = c.loop-step.invariant in
    let e = c.step-item.result in
    let d = c.in_ok-advance.ensures.does in
    let v = c.loop-step.world in
    let at = rw c.deref-step-items.ensures.value at c.step-item.is in
    let does = subst (λ (z : Bounds). StepDoes z n e d.0 v.wired c.advance.new.world.wired) i.3 (subst (λ (z : ℕ). StepDoes v.limit z e d.0 v.wired c.advance.new.world.wired) i.4 d.1) in
    (i.0, i.1, next_made s.limits n s.steps.items c.loop-step.step-index e d.0 i.0 v.wired c.advance.new.world.wired c.loop-step.recorder c.advance.new.recorder (omega arith) at i.2 does d.2, c.advance.ensures.limit ∙ i.3, c.advance.ensures.capacity ∙ i.4)

pub returns : goal.returns
returns c =
    let s = c.args.schedule.now in
    let i = c.loop-step.invariant in
    let made = subst (λ (steps : List Step). IsMade s.limits (non_zero_u16_get s.capacity) steps i.0 c.loop-step.world.wired c.loop-step.recorder.entries.items)
    (take_all c.loop-step.step-index s.steps.items (omega arith)) i.2 in
    all_made s i.0 c.loop-step.world.wired c.loop-step.recorder.entries.items i.1 made
