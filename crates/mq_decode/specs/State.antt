-- A decoder as contracts see it.
use Rattle.std.specs.Prelude.{ℕ, List, Option}
use Rattle.mq_decode.specs.Limits.{Bounds}
use Rattle.mq_decode.specs.declared.fault.DecodeError.{DecodeError}

-- The limits, the bytes of the incomplete packet, the error after which it stops, and the number of
-- bytes copied into its own buffer.
pub record State : Type 0 where
  pub limit : Bounds
  pub held : List ℕ
  pub failed : Option DecodeError
  pub copied : ℕ

-- The held bytes, a lower bound on the missing bytes of their packet (0 if unknown), the number of
-- bytes copied, and the capacity of the buffer.
pub record HeldBytes : Type 0 where
  pub bytes : List ℕ
  pub wants : ℕ
  pub copied : ℕ
  pub capacity : ℕ
