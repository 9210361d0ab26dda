use Rattle.std.proofs.Common.{◌≡◌, ◌++◌, drop}
use Rattle.mq_hub.specs.Inside.Placement.{placed_acts}
use Rattle.mq_hub.proofs.publish.enqueue.push_placed.Given as goal

abbrev pub invariant-loop-due : goal.invariant-loop-due
invariant-loop-due l = l.acts.items ++ placed_acts (drop l.due-index l.copies) ≡ l.initial.acts.items ++ placed_acts l.copies
