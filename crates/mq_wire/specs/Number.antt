-- Two-byte integers in big-endian order (1.5.2).
use Rattle.std.specs.Prelude.{◌≡◌, ℕ, ◌+◌, ◌*◌, ◌/◌, ◌%◌, ◌<◌, ◌≤◌, List, [], ◌∷◌, ◌++◌, length, drop, slice_index}
use Rattle.mq_wire.specs.Bytes.{AreBytes}

-- The two bytes of a number below 65,536.
abbrev pub number : ℕ → List ℕ
number value = value / 256 ∷ value % 256 ∷ []

-- The number in the two bytes at index `at`.
abbrev pub number_in : List ℕ → ℕ → ℕ
number_in bytes at = 256 * slice_index bytes at + slice_index bytes (at + 1)

-- The laws of numbers.
pub record NumberLaws : Type 0 where
  -- A written number is read back.
  pub again : (value : ℕ) (rest : List ℕ) → number_in (number value ++ rest) 0 ≡ value
  -- Two bytes are the encoding of the number that is read from them.
  pub found : (bytes : List ℕ) → AreBytes bytes → 2 ≤ length bytes → bytes ≡ number (number_in bytes 0) ++ drop 2 bytes
  pub below : (bytes : List ℕ) (at : ℕ) → AreBytes bytes → number_in bytes at < 65536
