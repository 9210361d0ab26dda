-- UTF-8 encoded strings (1.5.3). Only proofs cite these definitions.
use Rattle.std.specs.Prelude.{ℕ, Bool, ◌==◌, ◌||◌, nat_lt}

-- `byte` is U+0000 or part of a character beyond ASCII.
abbrev pub is_special : ℕ → Bool
is_special byte = (byte == 0) || nat_lt 127 byte
