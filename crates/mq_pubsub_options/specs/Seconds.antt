-- Durations in seconds.
use Rattle.std.specs.Prelude.{◌≡◌, ◌⊎◌, ◌≤◌, ◌<◌, ℕ, ◌+◌, ◌-◌, ◌*◌, ◌/◌, List, [], ◌∷◌, ◌++◌, length}
use Rattle.std.specs.List.{All}
use Rattle.std.specs.Str.Parse.{IsNumeral, digits_value}

-- the codes of 0 to 9
abbrev pub IsDigit : ℕ → Type 0
IsDigit byte = (48 ≤ byte) × (byte ≤ 57)

-- The milliseconds of digits in order, if the digit before the first counts `unit` of them. A digit
-- that counts less than one is ignored.
abbrev pub fraction : ℕ → List ℕ → ℕ
fraction unit [] = 0
fraction unit (digit ∷ digits) = (digit - 48) * (unit / 10) + fraction (unit / 10) digits

-- digits, and their number of seconds in milliseconds
pub record IsWhole (digits : List ℕ) (milliseconds : ℕ) : Type 0 where
  pub numeral : IsNumeral 10 digits
  pub value : milliseconds ≡ digits_value 10 digits * 1000

-- the digits behind a point, and their milliseconds
pub record IsFraction (digits : List ℕ) (milliseconds : ℕ) : Type 0 where
  pub some : 0 < length digits
  pub all_digits : All IsDigit digits
  pub value : milliseconds ≡ fraction 1000 digits

-- digits, a point and digits
pub record IsParts (text : List ℕ) (milliseconds : ℕ) : Type 0 where
  pub before : List ℕ
  pub behind : List ℕ
  pub seconds : ℕ
  pub part : ℕ
  pub text_is : text ≡ before ++ 46 ∷ behind
  pub whole : IsWhole before seconds
  pub fraction : IsFraction behind part
  pub sum : milliseconds ≡ seconds + part

-- a number of seconds in digits, maybe with a point, in milliseconds
abbrev pub IsDuration : List ℕ → ℕ → Type 0
IsDuration text milliseconds = IsWhole text milliseconds ⊎ IsParts text milliseconds
