use Rattle.std.proofs.Common.{◌≡◌, Some, map}
use Rattle.mq_loopback.proofs.rig.all_collected.Given as goal

abbrev pub invariant-loop-outcome : goal.invariant-loop-outcome
invariant-loop-outcome l = l.yielded ≡ map Some l.lists.items
