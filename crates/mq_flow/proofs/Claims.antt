-- The set of the claimed identifiers, as claims come and go.
use Rattle.std.proofs.Common.{◌≡◌, ℕ, zero, suc, ◌+◌, ◌<◌, ◌≤◌, ◌∙◌, true, false, cond, eqb, ltb, List, [], ◌∷◌, ◌++◌, map, length, remove, sym, ap, subst, arith, inl, inr}
use Rattle.std.specs.List.{list_any, HoldsAt}
use Rattle.std.proofs.lemmas.Bool.{cases_eq, eq-eqb, ne_eqb, lt-ltb, le-ltb}
use Rattle.std.proofs.lemmas.List.{map-append}
use Rattle.mq_flow.specs.declared.claim.Claimed.{Claimed}
use Rattle.mq_flow.specs.Sender.{times}
use Rattle.mq_flow.specs.Sending.{AreClaimed}
use Rattle.mq_flow.proofs.Counting.{times_append, times_same, times_other}

-- a number is put in a set, and taken out of it
abbrev pub Puts : ℕ → List ℕ → List ℕ → Type 0
Puts i ks ns = (q : ℕ) → list_any (eqb q) ns ≡ cond (eqb i q) true (list_any (eqb q) ks)

abbrev pub Takes : ℕ → List ℕ → List ℕ → Type 0
Takes i ks ns = (q : ℕ) → list_any (eqb q) ns ≡ cond (eqb i q) false (list_any (eqb q) ks)

-- a claim comes
pub claimed_more : (ks ns : List ℕ) (cs : List Claimed) (c : Claimed) → Puts c.id ks ns → AreClaimed ks cs → AreClaimed ns (cs ++ c ∷ [])
claimed_more ks ns cs c put used q =
    let old = map (λ (c : Claimed). c.id) cs in
    let new = map (λ (c : Claimed). c.id) (cs ++ c ∷ []) in
    let more : times q new ≡ times q old + times q (c.id ∷ []) = rw (map-append (λ (c : Claimed). c.id)) (times_append q old (c.id ∷ [])) in
    elim (cases_eq c.id q) [
      | inl e ↦
          let one : times q (c.id ∷ []) ≡ 1 = subst (λ (j : ℕ). times q (j ∷ []) ≡ 1) (sym e) (times_same q []) in
          put q ∙ ap (λ t. cond t true (list_any (eqb q) ks)) (eq-eqb c.id q e) ∙ sym (lt-ltb 0 (times q new) (omega arith))
      | inr ne ↦
          let none : times q (c.id ∷ []) ≡ 0 = times_other q c.id [] ne in
          let same : times q old ≡ times q new = omega arith in
          put q ∙ ap (λ t. cond t true (list_any (eqb q) ks)) (ne_eqb c.id q ne) ∙ used q ∙ ap (ltb 0) same
    ]

-- The list without the item of a number.
times_out : {A : Type 0} (f : A → ℕ) (i q : ℕ) (xs : List A) (n : ℕ) → n < length xs → HoldsAt (λ x. f x ≡ i) xs n → times q (map f xs) ≡ times q (map f (remove xs n)) + times q (i ∷ [])
times_out f i q [] n l h = absurd (omega arith)
times_out f i q (x ∷ xs) zero l h = let e : times q (f x ∷ map f xs) ≡ times q (i ∷ map f xs) = ap (λ (y : ℕ). times q (y ∷ map f xs)) (h x) in omega arith
times_out f i q (x ∷ xs) (suc n) l h = let k = times_out f i q xs n (omega arith) h in omega arith

-- a claim of an identifier that is claimed once goes
pub claimed_fewer : (ks ns : List ℕ) (cs : List Claimed) (i at : ℕ) → Takes i ks ns → times i (map (λ c. c.id) cs) ≤ 1 → at < length cs → HoldsAt (λ c. c.id ≡ i) cs at → AreClaimed ks cs → AreClaimed ns (remove cs at)
claimed_fewer ks ns cs i at take once l h used q =
    let old = map (λ (c : Claimed). c.id) cs in
    let new = map (λ (c : Claimed). c.id) (remove cs at) in
    let fewer : times q old ≡ times q new + times q (i ∷ []) = times_out (λ (c : Claimed). c.id) i q cs at l h in
    elim (cases_eq i q) [
      | inl e ↦
          let one : times q (i ∷ []) ≡ 1 = subst (λ (j : ℕ). times q (j ∷ []) ≡ 1) (sym e) (times_same q []) in
          let most : times q old ≤ 1 = subst (λ (j : ℕ). times j old ≤ 1) e once in
          take q ∙ ap (λ t. cond t false (list_any (eqb q) ks)) (eq-eqb i q e) ∙ sym (le-ltb 0 (times q new) (omega arith))
      | inr ne ↦
          let none : times q (i ∷ []) ≡ 0 = times_other q i [] ne in
          let same : times q old ≡ times q new = omega arith in
          take q ∙ ap (λ t. cond t false (list_any (eqb q) ks)) (ne_eqb i q ne) ∙ used q ∙ ap (ltb 0) same
    ]
