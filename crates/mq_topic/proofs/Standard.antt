-- The functions agree with the relation of the standard.
use Rattle.std.proofs.Common.{◌≡◌, ◌↔◌, ◌⊎◌, inl, inr, ℕ, Bool, true, false, not, ◌&&◌, ◌||◌, IsTrue, eqb, List, [], ◌∷◌, refl, sym, ap, subst, ◌∙◌, eqb-true, eq-eqb}
use Rattle.std.specs.Str.{bytes_eq}
use Rattle.std.proofs.lemmas.Bool.{and_parts}
use Rattle.mq_topic.specs.Topic.{levels, is_wildcard}
use Rattle.mq_topic.specs.Matching.{fits, fits_level, is_hash_alone, is_plus_level, begins, is_dollar, is_hidden, is_match}
use Rattle.mq_topic.specs.Match.{Fits, Ends, AllLeft, AnyLevel, SameLevel, BeginsWith, Match}

pub same_bytes : (a b : List ℕ) → bytes_eq a b ≡ true → a ≡ b
same_bytes [] [] e = refl
same_bytes [] (y ∷ b) e = absurd cc
same_bytes (x ∷ a) [] e = absurd cc
same_bytes (x ∷ a) (y ∷ b) e =
    let p = and_parts (eqb x y) (bytes_eq a b) e in
    λ i. eqb-true x y p.0 i ∷ same_bytes a b p.1 i

pub bytes_eq-itself : (a : List ℕ) → bytes_eq a a ≡ true
bytes_eq-itself [] = refl
bytes_eq-itself (x ∷ a) = rw (eq-eqb x x refl, bytes_eq-itself a) refl

pub or_cases : (a b : Bool) → (a || b) ≡ true → (a ≡ true) ⊎ (b ≡ true)
or_cases true b e = inl refl
or_cases false b e = inr e

pub or-right : (a b : Bool) → b ≡ true → (a || b) ≡ true
or-right true b e = refl
or-right false b e = e

from_hash : (ls : List (List ℕ)) (ns : List (List ℕ)) → is_hash_alone ls ≡ true → Fits ls ns
from_hash [] ns e = absurd cc
from_hash (l ∷ []) ns e = subst (λ x. Fits (x ∷ []) ns) (sym (same_bytes l (35 ∷ []) e)) (AllLeft ns)
from_hash (l ∷ m ∷ ls) ns e = absurd cc

from_level : (l n : List ℕ) (ls ns : List (List ℕ)) → fits_level l n ≡ true → Fits ls ns → Fits (l ∷ ls) (n ∷ ns)
from_level l n ls ns e h =
    elim (or_cases (is_plus_level l) (bytes_eq l n) e) [
      | inl plus ↦ subst (λ x. Fits (x ∷ ls) (n ∷ ns)) (sym (same_bytes l (43 ∷ []) plus)) (AnyLevel n ls ns h)
      | inr same ↦ subst (λ x. Fits (l ∷ ls) (x ∷ ns)) (same_bytes l n same) (SameLevel l ls ns h)
    ]

pub Fits-from_test : (ls ns : List (List ℕ)) → fits ls ns ≡ true → Fits ls ns
Fits-from_test [] [] e = Ends
Fits-from_test [] (n ∷ ns) e = absurd cc
Fits-from_test (l ∷ ls) [] e = from_hash (l ∷ ls) [] e
Fits-from_test (l ∷ ls) (n ∷ ns) e =
    elim (or_cases (is_hash_alone (l ∷ ls)) (fits_level l n && fits ls ns) e) [
      | inl hash ↦ from_hash (l ∷ ls) (n ∷ ns) hash
      | inr more ↦ let p = and_parts (fits_level l n) (fits ls ns) more in from_level l n ls ns p.0 (Fits-from_test ls ns p.1)
    ]

hash_fits : (ns : List (List ℕ)) → fits ((35 ∷ []) ∷ []) ns ≡ true
hash_fits [] = refl
hash_fits (n ∷ ns) = refl

level_fits : (l n : List ℕ) (ls ns : List (List ℕ)) → fits_level l n ≡ true → fits ls ns ≡ true → fits (l ∷ ls) (n ∷ ns) ≡ true
level_fits l n ls ns e h = or-right (is_hash_alone (l ∷ ls)) (fits_level l n && fits ls ns) (rw (e, h) refl)

pub test-from_Fits : (ls ns : List (List ℕ)) → Fits ls ns → fits ls ns ≡ true
test-from_Fits _ _ Ends = refl
test-from_Fits _ _ (AllLeft ns) = hash_fits ns
test-from_Fits _ _ (AnyLevel n ls ns h) = level_fits (43 ∷ []) n ls ns refl (test-from_Fits ls ns h)
test-from_Fits _ _ (SameLevel l ls ns h) =
    level_fits l l ls ns (or-right (is_plus_level l) (bytes_eq l l) (bytes_eq-itself l)) (test-from_Fits ls ns h)

-- ---- Names that begin with `$`

wildcard-first : (t : List ℕ) → begins is_wildcard t ≡ true → BeginsWith t 43 ⊎ BeginsWith t 35
wildcard-first [] e = absurd cc
wildcard-first (b ∷ t) e =
    elim (or_cases (eqb b 43) (eqb b 35) e) [
      | inl plus ↦ inl (t, ap (λ (x : ℕ). x ∷ t) (eqb-true b 43 plus))
      | inr hash ↦ inr (t, ap (λ (x : ℕ). x ∷ t) (eqb-true b 35 hash))
    ]

first-wildcard : (t : List ℕ) → BeginsWith t 43 ⊎ BeginsWith t 35 → begins is_wildcard t ≡ true
first-wildcard t (inl w) = rw w.1 refl
first-wildcard t (inr w) = rw w.1 refl

dollar-first : (t : List ℕ) → begins is_dollar t ≡ true → BeginsWith t 36
dollar-first [] e = absurd cc
dollar-first (b ∷ t) e = (t, ap (λ (x : ℕ). x ∷ t) (eqb-true b 36 e))

first-dollar : (t : List ℕ) → BeginsWith t 36 → begins is_dollar t ≡ true
first-dollar t w = rw w.1 refl

shown_from : (f n : List ℕ) (a b : Bool) → begins is_wildcard f ≡ a → begins is_dollar n ≡ b → not (a && b) ≡ true
    → BeginsWith f 43 ⊎ BeginsWith f 35 → BeginsWith n 36 → ⊥
shown_from f n true true p q e w d = absurd cc
shown_from f n true false p q e w d = absurd (let g = first-dollar n d in cc)
shown_from f n false b p q e w d = absurd (let g = first-wildcard f w in cc)

not_hidden : (f n : List ℕ) (a b : Bool) → begins is_wildcard f ≡ a → begins is_dollar n ≡ b
    → (BeginsWith f 43 ⊎ BeginsWith f 35 → BeginsWith n 36 → ⊥) → not (a && b) ≡ true
not_hidden f n true true p q shown = absurd (shown (wildcard-first f p) (dollar-first n q))
not_hidden f n true false p q shown = refl
not_hidden f n false b p q shown = refl

pub matching : (filter name : List ℕ) → (is_match filter name ≡ true) ↔ Match filter name
matching filter name = (
  λ e.
      let p = and_parts (fits (levels filter) (levels name)) (not (is_hidden filter name)) e in
      record { fits = Fits-from_test (levels filter) (levels name) p.0; shown = shown_from filter name _ _ refl refl p.1 },
  λ m. rw (test-from_Fits (levels filter) (levels name) m.fits, not_hidden filter name _ _ refl refl m.shown) refl,
)

-- The meaning of a result that equals the function's.
pub standard : (r : Bool) (filter name : List ℕ) → r ≡ is_match filter name → IsTrue r ↔ Match filter name
standard r filter name e = (
  λ h. (matching filter name).0 (sym e ∙ h),
  λ m. e ∙ (matching filter name).1 m,
)
