use Rattle.std.proofs.Common.{◌≡◌, ◌-◌, ◌^◌, min, take}
use Rattle.mq_tables.specs.Numbers.{all_stored}
use Rattle.mq_tables.proofs.sessions.table.stored_in.Given as goal

abbrev pub invariant-loop-boxed : goal.invariant-loop-boxed
invariant-loop-boxed l = l.total ≡ min (all_stored (take l.boxed-index l.list)) (2 ^ 64 - 1)
