-- The value of digits in base 128.
use Rattle.std.specs.Prelude.{ℕ, ◌+◌, ◌*◌, ◌%◌, List, [], ◌∷◌}

-- Up to three digits, least significant first, followed by the last one.
abbrev pub value_of : List ℕ → ℕ → ℕ
value_of [] last = last
value_of (first ∷ []) last = first % 128 + 128 * last
value_of (first ∷ second ∷ []) last = first % 128 + 128 * (second % 128) + 16384 * last
value_of (first ∷ second ∷ third ∷ rest) last = first % 128 + 128 * (second % 128) + 16384 * (third % 128) + 2097152 * last
