use Rattle.std.proofs.Common.{◌≡◌, ◌+◌, vec_len}
use Rattle.std.specs.List.{sum_by}
use Rattle.mq_book.proofs.shared.gather.Given as goal

abbrev pub invariant-loop-share : goal.invariant-loop-share
invariant-loop-share g l = (l.all.parts + vec_len l.shares ≡ g.L.Ledger.parts) × (l.all.amount + sum_by (λ s. s.count) l.shares.items ≡ sum_by (λ s. s.count) l.fn.shares.items)

abbrev pub decreases-loop-share : goal.decreases-loop-share
decreases-loop-share g l = goal.left-loop-share g l
