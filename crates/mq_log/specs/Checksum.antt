-- The checksum of an entry.
use Rattle.std.specs.Prelude.{ℕ, ◌+◌, ◌*◌, ◌%◌, List, [], ◌∷◌, length}

-- the sum after one more byte
abbrev pub next_sum : ℕ → ℕ → ℕ
next_sum sum byte = (sum * 16777619 + byte) % 4294967296

-- the sum after these bytes
abbrev pub sum_from : ℕ → List ℕ → ℕ
sum_from sum [] = sum
sum_from sum (byte ∷ bytes) = sum_from (next_sum sum byte) bytes

-- starts from the length, so that the length counts too
abbrev pub checksum : List ℕ → ℕ
checksum entry = sum_from ((2166136261 + length entry) % 4294967296) entry
