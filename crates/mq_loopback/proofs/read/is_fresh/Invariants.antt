use Rattle.std.proofs.Common.{◌↔◌, length}
use Rattle.mq_loopback.specs.File.{IsFresh}
use Rattle.mq_loopback.proofs.read.is_fresh.Given as goal

abbrev pub invariant-loop-left : goal.invariant-loop-left
invariant-loop-left l = IsFresh l.name l.fn.clients ↔ IsFresh l.name l.left

abbrev pub decreases-loop-left : goal.decreases-loop-left
decreases-loop-left l = length l.left
