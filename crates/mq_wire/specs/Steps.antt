-- A remaining length that arrives byte by byte (2.2.3).
use Rattle.std.specs.Prelude.{◌≡◌, ℕ, ◌<◌, ◌≤◌, Bool, false, List, [], ◌∷◌, ◌++◌, length}
use Rattle.mq_wire.specs.declared.length.VarStep.{VarStep}
use Rattle.mq_wire.specs.declared.length.VarStep.TheVariants.{More, Done, Bad}
use Rattle.mq_wire.specs.declared.length.VarFault.TheVariants.{TooLong, Overlong}
use Rattle.mq_wire.specs.Length.{LengthUnder}

-- Each of the bytes announces another.
abbrev pub Continue : List ℕ → Type 0
Continue [] = Unit {0}
Continue (byte ∷ rest) = (128 ≤ byte) × (byte < 256) × Continue rest

-- The state of a reader: the bytes that it received, and whether it is lenient.
pub record Coming : Type 0 where
  pub bytes : List ℕ
  pub lenient : Bool

-- The result of one more byte after bytes that each announce another: the length needs more bytes,
-- it is complete, a fourth byte announces a fifth, or a last byte is 0 and not the only one.
abbrev pub IsStep : Bool → List ℕ → ℕ → VarStep → Type 0
IsStep lenient before byte More = Continue (before ++ byte ∷ []) × (length before < 3)
IsStep lenient before byte (Done number) = LengthUnder lenient number (before ++ byte ∷ [])
IsStep lenient before byte (Bad TooLong) = Continue (before ++ byte ∷ []) × (length before ≡ 3)
IsStep lenient before byte (Bad Overlong) = (lenient ≡ false) × (byte ≡ 0) × (0 < length before)
