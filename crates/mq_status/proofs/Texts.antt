-- Texts that are written one after another.
use Rattle.std.proofs.Common.{◌≡◌, ℕ, List, ◌++◌, length, take, min, ap, ◌∙◌, arith, Option, Result, Ok, Err, OnOk}
use Rattle.std.proofs.KnownBytes.{Appends-trans}
use Rattle.std.proofs.lemmas.List.{take_min}
use Rattle.std.specs.Io.KnownBytes.{Appends}

-- a text was written, and then another one
pub and_then : {T E : Type 0} → (r : Result T E) (a b c : Option (List ℕ)) (x y : List ℕ) → Appends a b x → OnOk r (Appends b c y) → OnOk r (Appends a c (x ++ y))
and_then (Ok v) a b c x y p q = Appends-trans a b c x y p q
and_then (Err e) a b c x y p q = tt

-- the first twenty
pub shown : {A : Type 0} → (n : ℕ) (rows : List A) → n ≡ min (length rows) 20 → take n rows ≡ take 20 rows
shown n rows is = let same : n ≡ min 20 (length rows) = omega (arith, is) in ap (λ k. take k rows) same ∙ take_min 20 rows
