-- Lists of bytes are equal if their bytes are.
use Rattle.std.proofs.Common.{◌≡◌, ℕ, true, eqb, List, [], ◌∷◌, refl, eqb-true}
use Rattle.std.proofs.lemmas.Bool.{and_parts}
use Rattle.std.specs.Cmp.Lexicographic.{nat_list_eq_equiv}
use Rattle.std.specs.Str.{bytes_eq}

pub same_bytes : (a b : List ℕ) → bytes_eq a b ≡ true → a ≡ b
same_bytes [] [] e = refl
same_bytes [] (y ∷ b) e = absurd cc
same_bytes (x ∷ a) [] e = absurd cc
same_bytes (x ∷ a) (y ∷ b) e =
    let p = and_parts (eqb x y) (bytes_eq a b) e in
    λ i. eqb-true x y p.0 i ∷ same_bytes a b p.1 i

pub bytes_symm : (a b : List ℕ) → bytes_eq a b ≡ bytes_eq b a
bytes_symm a b = nat_list_eq_equiv.symm a b

pub bytes_itself : (a : List ℕ) → bytes_eq a a ≡ true
bytes_itself a = nat_list_eq_equiv.refl a
