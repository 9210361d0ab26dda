-- A reading gives a value, or the first field that is not of its kind.
use Rattle.std.specs.Prelude.{◌≡◌, ℕ, ◌-◌, ◌≤◌, List, length, take, drop, Result, Ok, Err}
use Rattle.mq_decode.specs.declared.fault.BadField.{BadField}
use Rattle.mq_decode.specs.declared.fault.FieldsError.{FieldsError}
use Rattle.mq_decode.specs.declared.fault.FieldsError.TheVariants as errors

-- Reads one field after another, up to the first invalid one.
infixl 10 ◌>>=◌
abbrev pub ◌>>=◌ : {A B : Type 0} → Result A BadField → (A → Result B BadField) → Result B BadField
(Ok x) >>= f = f x
(Err e) >>= f = Err e

-- the same, unless memory ran out
abbrev pub Fails : {Y : Type 0} → FieldsError → Result Y BadField → Type 0
Fails errors.Memory read = Unit {0}
Fails (errors.Bad bad) read = read ≡ Err bad

abbrev pub Gives : {X Y : Type 0} → (X → Y) → Result X FieldsError → Result Y BadField → Type 0
Gives view (Ok x) read = read ≡ Ok (view x)
Gives view (Err error) read = Fails error read

-- the bytes end with these
abbrev pub EndsWith : List ℕ → List ℕ → Type 0
EndsWith bytes rest = (length rest ≤ length bytes) × (drop (length bytes - length rest) bytes ≡ rest)

-- the bytes begin with these
abbrev pub BeginsWith : List ℕ → List ℕ → Type 0
BeginsWith bytes front = take (length front) bytes ≡ front
