use Rattle.std.proofs.Common.{◌≤◌, ℕ, Some, take}
use Rattle.mq_tables.specs.Expiry.{AreKept}
use Rattle.mq_tables.proofs.expiry.kept_until.Given as goal

abbrev pub invariant-loop-boxed : goal.invariant-loop-boxed
invariant-loop-boxed l = (now : ℕ) → now ≤ l.until → AreKept (Some l.expiry) now l.connections.connections (take l.boxed-index l.list)
