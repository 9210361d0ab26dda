use Rattle.std.proofs.Common.{◌≡◌, ◌++◌, map, take, drop}
use Rattle.std.specs.Option.{option_map}
use Rattle.mq_flow.specs.Inside.Held.{gone_out}
use Rattle.mq_flow.proofs.table.mark_slots.Given as goal

abbrev pub invariant-loop-slot : goal.invariant-loop-slot
invariant-loop-slot l = l.slot-items ≡ map (option_map gone_out) (take l.slot-index l.initial.slot-items) ++ drop l.slot-index l.initial.slot-items
