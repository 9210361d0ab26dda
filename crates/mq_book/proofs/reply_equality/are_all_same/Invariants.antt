use Rattle.std.proofs.Common.{◌≡◌, ◌↔◌, length}
use Rattle.mq_book.proofs.reply_equality.are_all_same.Given as goal

abbrev pub invariant-loop-left : goal.invariant-loop-left
invariant-loop-left l = (l.fn.one ≡ l.fn.other) ↔ (l.left ≡ l.right)

abbrev pub decreases-loop-left : goal.decreases-loop-left
decreases-loop-left l = length l.left
