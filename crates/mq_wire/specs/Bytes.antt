-- Bytes.
use Rattle.std.specs.Prelude.{ℕ, ◌<◌, List, slice_index}

-- Each item is a byte.
abbrev pub AreBytes : List ℕ → Type 0
AreBytes bytes = (index : ℕ) → slice_index bytes index < 256
