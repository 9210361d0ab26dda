use Rattle.std.proofs.Common.{◌≡◌, ◌↔◌, length}
use Rattle.mq_loopback.specs.Judged.{replies_in}
use Rattle.mq_loopback.proofs.verdict.are_replies.Given as goal

abbrev pub invariant-loop-left : goal.invariant-loop-left
invariant-loop-left l = (l.fn.replies ≡ replies_in l.fn.entries) ↔ (l.left ≡ replies_in l.right)

abbrev pub decreases-loop-left : goal.decreases-loop-left
decreases-loop-left l = length l.left
