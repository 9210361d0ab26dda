use Rattle.std.proofs.Common.{◌≡◌, map}
use Rattle.mq_serve.proofs.server.shares_and_receipts.Given as goal

abbrev pub invariant-loop-one : goal.invariant-loop-one
invariant-loop-one g l = (l.shares.items ≡ map (λ s. s.share) l.yielded) × (l.receipts.items ≡ map (λ s. s.receipts) l.yielded)
