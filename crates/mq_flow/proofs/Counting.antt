-- The number of occurrences of an identifier in a list.
use Rattle.std.proofs.Common.{◌≡◌, ℕ, ◌+◌, ◌≤◌, Bool, true, false, cond, not, ◌&&◌, ◌||◌, eqb, List, [], ◌∷◌, ◌++◌, map, length, filter, refl, sym, ap, subst, ◌∙◌, arith, inl, inr}
use Rattle.std.proofs.lemmas.Bool.{cases_eq, ne_eqb, cond_both}
use Rattle.std.proofs.lemmas.Bool.Decides.{nat_tests}
use Rattle.mq_topic.specs.declared.qos.Qos.{Qos}
use Rattle.mq_flow.specs.declared.entry.SenderEntry.{SenderEntry}
use Rattle.mq_flow.specs.declared.claim.Claimed.{Claimed}
use Rattle.mq_flow.specs.Sender.{times, without, without_entry, without_claim, is_awaited, same_qos}

pub times_append : (i : ℕ) (xs ys : List ℕ) → times i (xs ++ ys) ≡ times i xs + times i ys
times_append i [] ys = omega arith
times_append i (x ∷ xs) ys = let h = times_append i xs ys in omega arith

pub eqb_self : (i : ℕ) → eqb i i ≡ true
eqb_self i = grind (arith, nat_tests)

pub times_same : (i : ℕ) (xs : List ℕ) → times i (i ∷ xs) ≡ 1 + times i xs
times_same i xs = rw (eqb_self i) refl

pub times_other : (i j : ℕ) (xs : List ℕ) → (j ≡ i → ⊥) → times i (j ∷ xs) ≡ times i xs
times_other i j xs n = rw (ne_eqb j i n) (omega arith)

-- ---- without an identifier

pub without_same : (i : ℕ) (xs : List ℕ) → times i (without i xs) ≡ 0
without_same i [] = refl
without_same i (x ∷ xs) =
    elim (cases_eq x i) [
      | inl e ↦ let P : Bool → Type 0 = λ b. times i (cond (not b) (x ∷ without i xs) (without i xs)) ≡ 0 in subst P (sym (ap (λ (y : ℕ). eqb y i) e ∙ eqb_self i)) (without_same i xs)
      | inr n ↦ let P : Bool → Type 0 = λ b. times i (cond (not b) (x ∷ without i xs) (without i xs)) ≡ 0 in subst P (sym (ne_eqb x i n)) (times_other i x (without i xs) n ∙ without_same i xs)
    ]

pub without_other : (i j : ℕ) (xs : List ℕ) → (j ≡ i → ⊥) → times j (without i xs) ≡ times j xs
without_other i j [] n = refl
without_other i j (x ∷ xs) n =
    let h = without_other i j xs n in
    elim (cases_eq x i) [
      | inl e ↦
          let P : Bool → Type 0 = λ b. times j (cond (not b) (x ∷ without i xs) (without i xs)) ≡ times j (x ∷ xs) in
          subst P (sym (ap (λ (y : ℕ). eqb y i) e ∙ eqb_self i)) (h ∙ sym (times_other j x xs (λ q. n (sym q ∙ e))))
      | inr d ↦
          let P : Bool → Type 0 = λ b. times j (cond (not b) (x ∷ without i xs) (without i xs)) ≡ times j (x ∷ xs) in
          subst P (sym (ne_eqb x i d)) (ap (λ (n : ℕ). cond (eqb x j) 1 0 + n) h)
    ]

pub without_le : (i j : ℕ) (xs : List ℕ) → times j (without i xs) ≤ times j xs
without_le i j xs =
    elim (cases_eq j i) [
      | inl e ↦ let h : times j (without i xs) ≡ 0 = rw e (without_same i xs) in omega arith
      | inr n ↦ let h = without_other i j xs n in omega arith
    ]

pub without_absent : (i : ℕ) (xs : List ℕ) → times i xs ≡ 0 → without i xs ≡ xs
without_absent i [] z = refl
without_absent i (x ∷ xs) z =
    elim (cases_eq x i) [
      | inl e ↦ let h : times i (x ∷ xs) ≡ 1 + times i xs = rw e (times_same i xs) in absurd (omega arith)
      | inr n ↦
          let h = times_other i x xs n in
          let P : Bool → Type 0 = λ b. cond (not b) (x ∷ without i xs) (without i xs) ≡ x ∷ xs in
          subst P (sym (ne_eqb x i n)) (ap (λ (ys : List ℕ). x ∷ ys) (without_absent i xs (omega arith)))
    ]

pub without_first : (i : ℕ) (xs : List ℕ) → times i xs ≡ 0 → without i (i ∷ xs) ≡ xs
without_first i xs z =
    let P : Bool → Type 0 = λ b. cond (not b) (i ∷ without i xs) (without i xs) ≡ xs in
    subst P (sym (eqb_self i)) (without_absent i xs z)

pub filter_le : {A : Type 0} (p : A → Bool) (xs : List A) → length (filter p xs) ≤ length xs
filter_le p [] = omega arith
filter_le p (x ∷ xs) =
    let h = filter_le p xs in
    cond_both (p x) (x ∷ filter p xs) (filter p xs) (λ ys. length ys ≤ length (x ∷ xs)) (λ e. omega arith) (λ e. omega arith)

pub without_fewer : (i : ℕ) (xs : List ℕ) → 1 ≤ times i xs → length (without i xs) + 1 ≤ length xs
without_fewer i [] z = absurd (omega arith)
without_fewer i (x ∷ xs) z =
    elim (cases_eq x i) [
      | inl e ↦
          let h = filter_le (λ j. not (eqb j i)) xs in
          let P : Bool → Type 0 = λ b. length (cond (not b) (x ∷ without i xs) (without i xs)) + 1 ≤ length (x ∷ xs) in
          subst P (sym (ap (λ (y : ℕ). eqb y i) e ∙ eqb_self i)) (omega arith)
      | inr n ↦
          let h = times_other i x xs n in
          let k = without_fewer i xs (omega arith) in
          let P : Bool → Type 0 = λ b. length (cond (not b) (x ∷ without i xs) (without i xs)) + 1 ≤ length (x ∷ xs) in
          subst P (sym (ne_eqb x i n)) (omega arith)
    ]

-- ---- A filter on the results of a function

pub map_filter : {A B : Type 0} (f : A → B) (p : B → Bool) (xs : List A) → map f (filter (λ x. p (f x)) xs) ≡ filter p (map f xs)
map_filter f p [] = refl
map_filter {A} {B} f p (x ∷ xs) = elim (p (f x)) as (λ b. map f (cond b (x ∷ filter (λ x. p (f x)) xs) (filter (λ x. p (f x)) xs)) ≡ cond b (f x ∷ filter p (map f xs)) (filter p (map f xs))) [
  | true ↦ ap (λ (ys : List B). f x ∷ ys) (map_filter f p xs)
  | false ↦ map_filter f p xs
]

pub ids_without : (i : ℕ) (es : List SenderEntry) → map (λ e. e.id) (without_entry i es) ≡ without i (map (λ e. e.id) es)
ids_without i es = map_filter (λ (e : SenderEntry). e.id) (λ j. not (eqb j i)) es

pub claims_without : (i : ℕ) (cs : List Claimed) → map (λ c. c.id) (without_claim i cs) ≡ without i (map (λ c. c.id) cs)
claims_without i cs = map_filter (λ (c : Claimed). c.id) (λ j. not (eqb j i)) cs

-- ---- Pending messages are in the table

pub awaited_there : (q : Qos) (i : ℕ) (es : List SenderEntry) → is_awaited q i es ≡ true → 1 ≤ times i (map (λ e. e.id) es)
awaited_there q i [] h = absurd (true_false (sym h))
  where
    true_false : true ≡ false → ⊥
    true_false e = cc
awaited_there q i (e ∷ es) h =
    elim (cases_eq e.id i) [
      | inl s ↦ let k : times i (e.id ∷ map (λ e. e.id) es) ≡ 1 + times i (map (λ e. e.id) es) = rw s (times_same i _) in omega arith
      | inr n ↦
          let k = times_other i e.id (map (λ e. e.id) es) n in
          let P : Bool → Type 0 = λ b. (same_qos q e.message.qos && (b && e.sent)) || is_awaited q i es ≡ true in
          let rest : is_awaited q i es ≡ true = later (same_qos q e.message.qos) (is_awaited q i es) (subst P (ne_eqb e.id i n) h) in
          let t = awaited_there q i es rest in
          omega arith
    ]
  where
    later : (a c : Bool) → (a && false) || c ≡ true → c ≡ true
    later true c h = h
    later false c h = h
