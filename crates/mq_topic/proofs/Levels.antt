-- The levels of a text, taken off from the left.
use Rattle.std.proofs.Common.{◌≡◌, ℕ, ◌+◌, ◌<◌, Bool, true, false, not, eqb, cond, List, [], ◌∷◌, length, Option, Some, None, refl, arith}
use Rattle.std.specs.List.{slice_split, onto_first, position_or_len, before_first, after_first}
use Rattle.std.specs.Option.{option_or, is_some}
use Rattle.std.proofs.lemmas.Bool.{ne_eqb}
use Rattle.std.proofs.lemmas.List.Splits.{slice_split_first, length-slice_split}
use Rattle.mq_topic.specs.Topic.{is_slash, levels, level_fault, levels_fault}

-- If no element passes, the list has one part.
one_part-cons : (b : Bool) (p : ℕ → Bool) (x : ℕ) (xs : List ℕ) → (position_or_len p xs ≡ length xs → slice_split p xs ≡ xs ∷ [])
    → cond (not b) (1 + position_or_len p xs) 0 ≡ length (x ∷ xs) → cond b ([] ∷ slice_split p xs) (onto_first x (slice_split p xs)) ≡ (x ∷ xs) ∷ []
one_part-cons true p x xs tail e = absurd (omega arith)
one_part-cons false p x xs tail e = rw (tail (omega arith)) refl

pub one_part : (p : ℕ → Bool) (xs : List ℕ) → position_or_len p xs ≡ length xs → slice_split p xs ≡ xs ∷ []
one_part p [] e = refl
one_part p (x ∷ xs) e = one_part-cons (p x) p x xs (one_part p xs) e

option_or-none : {A : Type 0} (o : Option A) → option_or o None ≡ o
option_or-none None = refl
option_or-none (Some x) = refl

pub option_or-some : {A : Type 0} (o p : Option A) → is_some o ≡ true → option_or o p ≡ o
option_or-some None p e = absurd cc
option_or-some (Some x) p e = refl

pub option_or-no : {A : Type 0} (o p : Option A) → is_some o ≡ false → option_or o p ≡ p
option_or-no None p e = refl
option_or-no (Some x) p e = absurd cc

-- the last level
pub levels_fault_last : (t : List ℕ) → position_or_len is_slash t ≡ length t → levels_fault (levels t) ≡ level_fault true t
levels_fault_last t e = rw (one_part is_slash t e) (option_or-none (level_fault true t))

-- a level, and those after it
pub levels_fault_first : (t : List ℕ) → position_or_len is_slash t < length t
    → levels_fault (levels t) ≡ option_or (level_fault false (before_first is_slash t)) (levels_fault (levels (after_first is_slash t)))
levels_fault_first t h =
    let after : List (List ℕ) = levels (after_first is_slash t) in
    let more : eqb (length after) 0 ≡ false = ne_eqb (length after) 0 (λ none. omega (arith, length-slice_split is_slash (after_first is_slash t))) in
    rw (slice_split_first is_slash t 0 h, more) refl
