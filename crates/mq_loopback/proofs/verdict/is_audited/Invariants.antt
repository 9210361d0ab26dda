use Rattle.std.proofs.Common.{◌↔◌, length}
use Rattle.mq_loopback.specs.Judged.{AllStand}
use Rattle.mq_loopback.proofs.verdict.is_audited.Given as goal

abbrev pub invariant-loop-left : goal.invariant-loop-left
invariant-loop-left l = AllStand l.journal l.fn.receipts ↔ AllStand l.journal l.left

abbrev pub decreases-loop-left : goal.decreases-loop-left
decreases-loop-left l = length l.left
