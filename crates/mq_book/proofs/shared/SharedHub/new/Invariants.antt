use Rattle.std.proofs.Common.{◌≡◌, ◌+◌, All, map, vec_len}
use Rattle.mq_book.specs.Pages.{below}
use Rattle.mq_book.proofs.shared.SharedHub.new.Given as goal

abbrev pub invariant-loop-worker : goal.invariant-loop-worker
invariant-loop-worker g l =
    (l.rest.parts + l.worker ≡ l.fn.workers) × (l.rest.amount ≡ 0) × (vec_len l.shares ≡ l.worker) × All (λ s. s.count ≡ 0) l.shares.items
    × (map (λ s. s.worker) l.shares.items ≡ below l.worker)
