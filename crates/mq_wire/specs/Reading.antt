-- Reading a remaining length at the front of a buffer, and the laws that connect it with `Length`
-- (2.2.3).
use Rattle.std.specs.Prelude.{◌≡◌, ℕ, ◌+◌, ◌-◌, ◌*◌, ◌^◌, ◌<◌, ◌≤◌, Bool, false, not, ◌&&◌, List, [], ◌∷◌, ◌++◌, length, take, nat_lt, ◌==◌, if◌then◌else◌}
use Rattle.mq_wire.specs.declared.length_reading.LengthReading.{LengthReading}
use Rattle.mq_wire.specs.declared.length_reading.LengthReading.TheVariants.{Whole, Unfinished, TooLong, Overlong}
use Rattle.mq_wire.specs.Bytes.{AreBytes}
use Rattle.mq_wire.specs.Length.{Length, LengthUnder, length_bytes}
use Rattle.mq_wire.specs.Steps.{Continue}

-- The last of several bytes: 0 is one byte too many, except for a lenient reader.
abbrev pub last_byte : Bool → ℕ → ℕ → ℕ → LengthReading
last_byte lenient byte number size = if not lenient && byte == 0 then Overlong size else Whole number size

-- `low` is the value of the bytes before.
abbrev pub fourth_byte : Bool → ℕ → List ℕ → LengthReading
fourth_byte lenient low [] = Unfinished
fourth_byte lenient low (byte ∷ rest) = if nat_lt byte 128 then last_byte lenient byte (low + 2097152 * byte) 4 else TooLong

abbrev pub third_byte : Bool → ℕ → List ℕ → LengthReading
third_byte lenient low [] = Unfinished
third_byte lenient low (byte ∷ rest) = if nat_lt byte 128 then last_byte lenient byte (low + 16384 * byte) 3 else fourth_byte lenient (low + 16384 * (byte - 128)) rest

abbrev pub second_byte : Bool → ℕ → List ℕ → LengthReading
second_byte lenient low [] = Unfinished
second_byte lenient low (byte ∷ rest) = if nat_lt byte 128 then last_byte lenient byte (low + 128 * byte) 2 else third_byte lenient (low + 128 * (byte - 128)) rest

-- The remaining length at the front of a buffer.
unfoldable pub read_length : Bool → List ℕ → LengthReading
read_length lenient [] = Unfinished
read_length lenient (byte ∷ rest) = if nat_lt byte 128 then Whole byte 1 else second_byte lenient (byte - 128) rest

-- A length takes at most four bytes and is below 2 ^ 28.
abbrev pub IsSmall : LengthReading → Type 0
IsSmall (Whole number size) = (size ≤ 4) × (number < 2 ^ 28)
IsSmall Unfinished = Unit {0}
IsSmall TooLong = Unit {0}
IsSmall (Overlong size) = size ≤ 4

-- The buffer begins with four bytes that each announce another.
pub record IsTooLong (bytes : List ℕ) : Type 0 where
  pub digits : List ℕ
  pub rest : List ℕ
  pub parts : bytes ≡ digits ++ rest
  pub following : Continue digits
  pub four : length digits ≡ 4

-- The buffer begins with one to three bytes that each announce another, followed by 0. `size`
-- counts them all.
pub record IsOverlong (bytes : List ℕ) (size : ℕ) : Type 0 where
  pub digits : List ℕ
  pub rest : List ℕ
  pub parts : bytes ≡ digits ++ 0 ∷ rest
  pub following : Continue digits
  pub some : 0 < length digits
  pub three : length digits ≤ 3
  pub counted : size ≡ length digits + 1

-- The laws of remaining lengths.
pub record LengthLaws : Type 0 where
  -- Each number below 2 ^ 28 has exactly one encoding, `length_bytes`; other numbers have none.
  pub exists : (number : ℕ) → number < 2 ^ 28 → Length number (length_bytes number)
  pub one : (number : ℕ) (bytes : List ℕ) → Length number bytes → bytes ≡ length_bytes number
  pub below : (lenient : Bool) (number : ℕ) (bytes : List ℕ) → LengthUnder lenient number bytes → number < 2 ^ 28
  -- An encoding has at least one byte.
  pub some : (lenient : Bool) (number : ℕ) (bytes : List ℕ) → LengthUnder lenient number bytes → 0 < length bytes
  -- A lenient reader accepts each encoding.
  pub reads : (lenient : Bool) (number : ℕ) (bytes : List ℕ) → Length number bytes → LengthUnder lenient number bytes
  -- An encoding is read as its number, whatever follows it; likewise for both faults.
  pub again : (lenient : Bool) (number : ℕ) (bytes rest : List ℕ) → LengthUnder lenient number bytes → read_length lenient (bytes ++ rest) ≡ Whole number (length bytes)
  pub too_long_again : (lenient : Bool) (bytes : List ℕ) → IsTooLong bytes → read_length lenient bytes ≡ TooLong
  pub overlong_again : (bytes : List ℕ) (size : ℕ) → IsOverlong bytes size → read_length false bytes ≡ Overlong size
  -- Only encodings are read as lengths; likewise for both faults. A lenient reader reports only the
  -- first fault.
  pub found : (lenient : Bool) (bytes : List ℕ) (number size : ℕ) → AreBytes bytes → read_length lenient bytes ≡ Whole number size
      → (size ≤ length bytes) × LengthUnder lenient number (take size bytes)
  pub too_long_found : (lenient : Bool) (bytes : List ℕ) → AreBytes bytes → read_length lenient bytes ≡ TooLong → IsTooLong bytes
  pub overlong_found : (lenient : Bool) (bytes : List ℕ) (size : ℕ) → AreBytes bytes → read_length lenient bytes ≡ Overlong size → (lenient ≡ false) × IsOverlong bytes size
  -- An unfinished length has at most three bytes.
  pub unfinished : (lenient : Bool) (bytes : List ℕ) → AreBytes bytes → read_length lenient bytes ≡ Unfinished → length bytes < 4
