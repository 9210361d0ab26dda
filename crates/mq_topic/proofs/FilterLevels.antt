-- The levels of a filter have no fault exactly if each is a level of a filter.
use Rattle.std.proofs.Common.{◌≡◌, ◌↔◌, ◌⊎◌, inl, inr, ℕ, ◌<◌, Bool, true, false, not, ◌&&◌, ◌||◌, cond, eqb, List, [], ◌∷◌, length, Option, Some, None, refl, sym, ap, ◌∙◌, eqb-true, arith}
use Rattle.std.specs.List.{list_any}
use Rattle.std.specs.Option.{option_or, is_none}
use Rattle.std.proofs.lemmas.Bool.{or_parts, and_parts, not-true, eqb-false, ne_eqb}
use Rattle.mq_topic.specs.Topic.{is_plus, is_hash, is_wildcard, level_fault, levels, levels_fault, is_topic_filter}
use Rattle.mq_topic.specs.Laws.{IsFilterLevel, AreFilterLevels}
use Rattle.mq_topic.specs.declared.fault.TopicFault.{TopicFault}
use Rattle.mq_topic.specs.declared.fault.TopicFault.TheVariants.{Plus, Hash}

or_swap : (a b c d : Bool) → ((a || b) || (c || d)) ≡ ((a || c) || (b || d))
or_swap true b c d = refl
or_swap false true true d = refl
or_swap false true false d = refl
or_swap false false c d = refl

or_no : (a : Bool) → (a || false) ≡ true → a ≡ true
or_no true e = refl
or_no false e = absurd cc

pub any_wildcard : (l : List ℕ) → list_any is_wildcard l ≡ (list_any is_plus l || list_any is_hash l)
any_wildcard [] = refl
any_wildcard (b ∷ l) = ap (λ (r : Bool). is_wildcard b || r) (any_wildcard l) ∙ or_swap (is_plus b) (is_hash b) (list_any is_plus l) (list_any is_hash l)

-- one byte that is c
alone : (c : ℕ) (l : List ℕ) → eqb (length l) 1 ≡ true → list_any (λ b. eqb b c) l ≡ true → l ≡ c ∷ []
alone c [] one any = absurd cc
alone c (b ∷ []) one any = ap (λ (x : ℕ). x ∷ []) (eqb-true b c (or_no (eqb b c) any))
alone c (b ∷ d ∷ l) one any = absurd (omega (arith, eqb-true (length (b ∷ d ∷ l)) 1 one))

-- ---- a level

tests : (plus hash one last : Bool) → cond (plus && not one) (Some Plus) (cond (hash && not (last && one)) (Some Hash) None) ≡ None
    → ((plus || hash) ≡ false) ⊎ ((one ≡ true) × ((plus ≡ true) ⊎ ((hash ≡ true) × (last ≡ true))))
tests false false one last e = inl refl
tests true hash true last e = inr (refl, inl refl)
tests true hash false last e = absurd cc
tests false true true true e = inr (refl, inr (refl, refl))
tests false true true false e = absurd cc
tests false true false true e = absurd cc
tests false true false false e = absurd cc

level_from_none : (last : Bool) (l : List ℕ) → level_fault last l ≡ None → IsFilterLevel last l
level_from_none last l e =
    elim (tests (list_any is_plus l) (list_any is_hash l) (eqb (length l) 1) last e) [
      | inl plain ↦ inl (any_wildcard l ∙ plain)
      | inr w ↦ elim (w.1) [
        | inl plus ↦ inr (inl (alone 43 l w.0 plus))
        | inr hash ↦ inr (inr (alone 35 l w.0 hash.0, hash.1))
      ]
    ]

none_from_level : (last : Bool) (l : List ℕ) → IsFilterLevel last l → level_fault last l ≡ None
none_from_level last l (inl plain) =
    let p = or_parts (list_any is_plus l) (list_any is_hash l) (sym (any_wildcard l) ∙ plain) in
    rw (p.0, p.1) refl
none_from_level last l (inr (inl e)) = rw e refl
none_from_level last l (inr (inr h)) = rw (h.0, h.1) refl

-- ---- all levels

both : (o p : Option TopicFault) → option_or o p ≡ None → (o ≡ None) × (p ≡ None)
both None p e = (refl, e)
both (Some f) p e = absurd cc

levels_from_none : (ls : List (List ℕ)) → levels_fault ls ≡ None → AreFilterLevels ls
levels_from_none [] e = tt
levels_from_none (l ∷ ls) e =
    let b = both (level_fault (eqb (length ls) 0) l) (levels_fault ls) e in
    (level_from_none (eqb (length ls) 0) l b.0, levels_from_none ls b.1)

none_from_levels : (ls : List (List ℕ)) → AreFilterLevels ls → levels_fault ls ≡ None
none_from_levels [] h = refl
none_from_levels (l ∷ ls) h = rw (none_from_level (eqb (length ls) 0) l h.0) (none_from_levels ls h.1)

-- ---- a filter

pub is_none-true : (o : Option TopicFault) → is_none o ≡ true → o ≡ None
is_none-true None e = refl
is_none-true (Some f) e = absurd cc

pub filter_levels : (t : List ℕ) → (is_topic_filter t ≡ true) ↔ ((0 < length t) × AreFilterLevels (levels t))
filter_levels t = (
  λ e.
      let p = and_parts (not (eqb (length t) 0)) (is_none (levels_fault (levels t))) e in
      let some : length t ≡ 0 → ⊥ = eqb-false (length t) 0 (not-true _ p.0) in
      (omega arith, levels_from_none (levels t) (is_none-true _ p.1)),
  λ h. rw (ne_eqb (length t) 0 (λ e. omega (arith, h.0)), none_from_levels (levels t) h.1) refl,
)
