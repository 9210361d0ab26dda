-- The remaining length of a packet (2.2.3).
use Rattle.std.specs.Prelude.{◌≡◌, ℕ, ◌+◌, ◌*◌, ◌/◌, ◌%◌, ◌<◌, ◌≤◌, Bool, true, false, List, [], ◌∷◌, length, nat_lt, if◌then◌else◌}

-- The bytes are the digits of `number` in base 128, least significant first, with 128 added to each
-- but the last.
abbrev pub Digits : ℕ → List ℕ → Type 0
Digits number [] = ⊥
Digits number (first ∷ []) = (first < 128) × (number ≡ first)
Digits number (first ∷ second ∷ rest) = (128 ≤ first) × (first < 256) × (high : ℕ) × (number + 128 ≡ first + 128 * high) × Digits high (second ∷ rest)

-- The last byte is not 0, unless it is the only one.
abbrev pub IsShortest : List ℕ → Type 0
IsShortest [] = Unit {0}
IsShortest (first ∷ []) = Unit {0}
IsShortest (first ∷ second ∷ []) = 0 < second
IsShortest (first ∷ second ∷ third ∷ rest) = IsShortest (second ∷ third ∷ rest)

-- `bytes` is the shortest encoding of the remaining length `number`, and has one to four digits.
abbrev pub Length : ℕ → List ℕ → Type 0
Length number bytes = Digits number bytes × (length bytes ≤ 4) × IsShortest bytes

-- The same without the condition that no shorter encoding exists.
abbrev pub LooseLength : ℕ → List ℕ → Type 0
LooseLength number bytes = Digits number bytes × (length bytes ≤ 4)

-- `bytes` is accepted as the remaining length `number`, by a lenient reader also if it is longer
-- than necessary.
abbrev pub LengthUnder : Bool → ℕ → List ℕ → Type 0
LengthUnder false number bytes = Length number bytes
LengthUnder true number bytes = LooseLength number bytes

-- The encoding of the remaining length `number`.
unfoldable pub length_bytes : ℕ → List ℕ
length_bytes number =
    if nat_lt number 128 then number ∷ [] else
    (if nat_lt number 16384 then (128 + number % 128) ∷ (number / 128) ∷ [] else
    (if nat_lt number 2097152 then (128 + number % 128) ∷ (128 + number / 128 % 128) ∷ (number / 16384) ∷ [] else
    (128 + number % 128) ∷ (128 + number / 128 % 128) ∷ (128 + number / 16384 % 128) ∷ (number / 2097152) ∷ []))
