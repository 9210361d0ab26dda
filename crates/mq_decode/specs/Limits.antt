-- Limits on packets that are read.
use Rattle.std.specs.Prelude.{ℕ, Bool, true, false}

-- the greatest remaining length, and whether one may have more bytes than it needs (2.2.3)
pub record Bounds : Type 0 where
  pub most : ℕ
  pub lenient : Bool

-- no length has more bytes than it needs
abbrev pub strict : ℕ → Bounds
strict most = record { most = most; lenient = false }

-- a length may
abbrev pub loose : ℕ → Bounds
loose most = record { most = most; lenient = true }
