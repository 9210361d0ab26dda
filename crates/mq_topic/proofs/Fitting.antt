-- How the levels of a filter fit those of a name, level by level.
use Rattle.std.proofs.Common.{◌≡◌, ℕ, ◌<◌, Bool, true, false, not, ◌&&◌, List, [], ◌∷◌, length, Option, Some, None, Bor, is_none, is_some, refl, sym, ◌∙◌, arith}
use Rattle.std.proofs.lemmas.List.Splits.{length-slice_split}
use Rattle.mq_topic.specs.Topic.{is_slash, levels}
use Rattle.mq_topic.specs.Matching.{fits, fits_level, is_hash_alone, is_hash_level}
use Rattle.mq_topic.specs.Inside.Matching.{levels_left}

and-false : (b : Bool) → (b && false) ≡ false
and-false true = refl
and-false false = refl

and-true : (b : Bool) → (b && true) ≡ b
and-true true = refl
and-true false = refl

hash_alone-first : (l : List ℕ) (ls : List (List ℕ)) → 0 < length ls → is_hash_alone (l ∷ ls) ≡ false
hash_alone-first l [] h = absurd (omega arith)
hash_alone-first l (m ∷ ls) h = refl

-- a text has a level
pub levels_some : (t : List ℕ) → 0 < length (levels t)
levels_some t = omega (arith, length-slice_split is_slash t)

pub hash_alone-left : (l : List ℕ) (after : Option (Bor (List ℕ))) → is_hash_alone (l ∷ levels_left after) ≡ (is_hash_level l && is_none after)
hash_alone-left l None = sym (and-true (is_hash_level l))
hash_alone-left l (Some t) = hash_alone-first l (levels t.now) (levels_some t.now) ∙ sym (and-false (is_hash_level l))

fits-none_some : (ns : List (List ℕ)) → 0 < length ns → fits [] ns ≡ false
fits-none_some [] h = absurd (omega arith)
fits-none_some (n ∷ ns) h = refl

-- a filter's last level is behind
pub fits-none : (left : Option (Bor (List ℕ))) → fits [] (levels_left left) ≡ is_none left
fits-none None = refl
fits-none (Some t) = fits-none_some (levels t.now) (levels_some t.now)

pub fits-hash : (l : List ℕ) (ls ns : List (List ℕ)) → is_hash_alone (l ∷ ls) ≡ true → fits (l ∷ ls) ns ≡ true
fits-hash l ls [] e = e
fits-hash l ls (n ∷ ns) e = rw e refl

pub fits-other : (l n : List ℕ) (ls ns : List (List ℕ)) → is_hash_alone (l ∷ ls) ≡ false → fits_level l n ≡ false → fits (l ∷ ls) (n ∷ ns) ≡ false
fits-other l n ls ns e d = rw (e, d) refl

pub fits-next : (l n : List ℕ) (ls ns : List (List ℕ)) → is_hash_alone (l ∷ ls) ≡ false → fits_level l n ≡ true → fits (l ∷ ls) (n ∷ ns) ≡ fits ls ns
fits-next l n ls ns e d = rw (e, d) refl

-- The result of `is_none`.
pub is_none-answer : (o : Option (Bor (List ℕ))) (r : Bool) → is_some o ≡ not r → r ≡ is_none o
is_none-answer None true e = refl
is_none-answer None false e = absurd cc
is_none-answer (Some t) true e = absurd cc
is_none-answer (Some t) false e = refl
