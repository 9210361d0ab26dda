use Rattle.std.proofs.Common.{map}
use Rattle.mq_schedule.specs.Parts.{AreSteps}
use Rattle.mq_schedule.proofs.read.read_steps.Given as goal

-- The lines read are the steps.
abbrev pub invariant-loop-line : goal.invariant-loop-line
invariant-loop-line l = record {
  can_next : (goal.iterator-loop-line).can_next l.line-iterator;
  is_finite : (goal.iterator-loop-line).is_finite l.line-iterator;
  read : AreSteps l.steps.items (map (λ line. line.now) l.yielded);
}
