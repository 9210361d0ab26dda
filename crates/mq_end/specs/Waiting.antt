-- Pending output, and the bytes of an incomplete packet.
use Rattle.std.specs.Prelude.{ℕ, List, Option, Some, None}
use Rattle.mq_decode.specs.Limits.{Bounds}

-- The bytes, the oldest first; and how many may wait in all without more memory, as reserved.
pub record Waiting : Type 0 where
  pub bytes : List ℕ
  pub room : ℕ

-- The pending bytes: a shared block, or the bytes of an output's own buffer.
abbrev pub pending : Option (List ℕ) → List ℕ → List ℕ
pending (Some block) own = block
pending None own = own

-- The limits of a decoder, and the bytes of its incomplete packet.
pub record Incomplete : Type 0 where
  pub limit : Bounds
  pub held : List ℕ
