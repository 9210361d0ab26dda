use Rattle.std.proofs.Common.{◌≡◌, ◌++◌, List, take, flat_map, ap, subst, ◌∙◌, arith}
use Rattle.std.specs.List.{All}
use Rattle.std.specs.String.{string_bytes}
use Rattle.std.proofs.lemmas.List.{take_all}
use Rattle.std.proofs.lemmas.List.Elements.{All-more}
use Rattle.mq_schedule.specs.declared.schedule.Step.{Step}
use Rattle.mq_schedule.specs.Parts.{KeepsBounds}
use Rattle.mq_schedule.specs.Writing.{line_with, step_line, world_words}
use Rattle.mq_schedule.proofs.Laying.{line_more, schedule_back}
use Rattle.mq_schedule.proofs.writing.write_schedule.Goals as goal

pub loop-step-preserved : goal.loop-step-preserved
loop-step-preserved c =
    let at = c.loop-step in
    let steps = c.deref-step-items.result.now in
    let step = c.step-item.result in
    record {
      text = line_more (world_words c.args.schedule.now) steps at.step-index step (string_bytes at.text) (string_bytes c.write_step.new.text) (omega arith) c.step-item.is at.invariant.text c.in_ok-write_step.ensures.text;
      bounds = All-more KeepsBounds steps at.step-index step (omega arith) at.invariant.bounds (subst KeepsBounds c.step-item.is c.write_step.ensures.bounds);
    }

pub returns-clause-reads : goal.returns-clause-reads
returns-clause-reads c =
    let s = c.args.schedule.now in
    let at = c.loop-step in
    let all : take at.step-index c.deref-step-items.result.now ≡ s.steps.items = take_all at.step-index c.deref-step-items.result.now (omega arith) ∙ c.deref-step-items.ensures.value in
    schedule_back s (string_bytes at.text) (at.invariant.text ∙ ap (λ (steps : List Step). line_with (world_words s) ++ flat_map step_line steps) all) c.write_world.ensures.world (subst (All KeepsBounds) all at.invariant.bounds)
