-- Identifiers in ascending order, and the set that they are.
use Rattle.std.proofs.Common.{◌≡◌, ℕ, zero, suc, ◌+◌, ◌<◌, ◌≤◌, Bool, true, false, cond, ◌||◌, eqb, ltb, List, [], ◌∷◌, length, filter, refl, sym, ap, subst, ◌∙◌, arith, inl, inr}
use Rattle.std.specs.List.{list_any, range_with_len, AllByRecursion}
use Rattle.std.specs.List.Sorted.{IsStrictlySortedBy}
use Rattle.std.specs.Ordering.{nat_cmp, eq_by_cmp}
use Rattle.std.specs.declared.cmp.Ordering.TheVariants.{Less, Equal, Greater}
use Rattle.std.specs.FinSet.{FinSet, contains, from_list, contains-from_list}
use Rattle.std.specs.Cmp.{unsigned_tied, nat_cmp_total, nat_eq_equiv}
use Rattle.std.proofs.lemmas.Bool.{ltb-true, eqb-true, eqb-false, eq-eqb, ne_eqb, or_left, or_right, or_from, or_cases, cases_eq, cases_lt, cond_both, false_from_ne_true}
use Rattle.mq_packet.specs.Identifier.{IsIdentifier}
use Rattle.mq_flow.specs.Receiver.{AreIdentifiers}
use Rattle.mq_flow.specs.Saved.{ascending}
use Rattle.mq_flow.proofs.Counting.{eqb_self}

-- the numbers ascend from lo on, below 65,536
abbrev pub Rising : ℕ → List ℕ → Type 0
Rising lo [] = Unit {0}
Rising lo (k ∷ ks) = (lo ≤ k) × (k < 65536) × Rising (k + 1) ks

less_is : (x y : ℕ) → nat_cmp x y ≡ Less → x < y
less_is x y e = elim (ltb x y) as (λ b. ltb x y ≡ b → cond b Less (cond (eqb x y) Equal Greater) ≡ Less → x < y) [
  | true ↦ λ t _. ltb-true x y t
  | false ↦ λ _ h. elim (eqb x y) as (λ b. cond b Equal Greater ≡ Less → x < y) [ true ↦ λ q. absurd cc | false ↦ λ q. absurd cc ] h
] refl e

-- A property of each number in a list holds for all.
each_of : (P : ℕ → Type 0) (ks : List ℕ) → ((i : ℕ) → list_any (eq_by_cmp nat_cmp i) ks ≡ true → P i) → AllByRecursion P ks
each_of P [] h = tt
each_of P (k ∷ ks) h =
    (h k (or_left _ _ (unsigned_tied k k ∙ eqb_self k)), each_of P ks (λ i e. h i (or_right _ _ e)))

rising_from : (lo : ℕ) (ks : List ℕ) → AllByRecursion (λ y. lo ≤ y) ks → AllByRecursion (λ y. y < 65536) ks → IsStrictlySortedBy nat_cmp ks → Rising lo ks
unfolding IsStrictlySortedBy
rising_from lo [] low high sorted = tt
rising_from lo (k ∷ ks) low high sorted = (low.0, high.0, rising_from (k + 1) ks (after ks sorted.0) high.1 sorted.1)
  where
    after : (ys : List ℕ) → AllByRecursion (λ y. nat_cmp k y ≡ Less) ys → AllByRecursion (λ y. k + 1 ≤ y) ys
    after [] h = tt
    after (y ∷ ys) h = (let l = less_is k y h.0 in omega arith, after ys h.1)

pub keys_rise : (ks : List ℕ) → AreIdentifiers ks → IsStrictlySortedBy nat_cmp ks → Rising 1 ks
keys_rise ks are sorted =
    rising_from 1 ks (each_of (λ y. 1 ≤ y) ks (λ i e. let h = are i e in omega arith)) (each_of (λ y. y < 65536) ks (λ i e. (are i e).1)) sorted

pub rising_length : (lo : ℕ) (ks : List ℕ) → lo ≤ 65536 → Rising lo ks → length ks + lo ≤ 65536
rising_length lo [] small r = omega arith
rising_length lo (k ∷ ks) small r = let h = rising_length (k + 1) ks (omega arith) r.2 in omega arith

-- none of them is below the first
pub not_below : (lo q : ℕ) (ks : List ℕ) → q < lo → Rising lo ks → list_any (λ k. eqb k q) ks ≡ false
not_below lo q [] less r = refl
not_below lo q (k ∷ ks) less r = or_from _ _ (ne_eqb k q (λ e. omega arith)) (not_below (k + 1) q ks (omega arith) r.2)

rising_equal : (lo k : ℕ) (ks : List ℕ) → k ≡ lo → Rising (k + 1) ks → Rising (lo + 1) ks
rising_equal lo k ks e r = subst (λ n. Rising (n + 1) ks) e r

-- those of a range that are among them are they
pub sifted : (p : ℕ → Bool) (n lo : ℕ) (ks : List ℕ) → lo + n ≡ 65536 → ((q : ℕ) → lo ≤ q → p q ≡ list_any (λ k. eqb k q) ks) → Rising lo ks → filter p (range_with_len lo n) ≡ ks
sifted p zero lo [] all same r = refl
sifted p zero lo (k ∷ ks) all same r = absurd (omega (arith, r.0, r.1))
sifted p (suc n) lo [] all same r =
    let rest = sifted p n (lo + 1) [] (omega arith) (λ q h. same q (omega arith)) tt in
    subst (λ b. cond b (lo ∷ filter p (range_with_len (lo + 1) n)) (filter p (range_with_len (lo + 1) n)) ≡ []) (sym (same lo (omega arith))) rest
sifted p (suc n) lo (k ∷ ks) all same r =
    elim (eqb k lo) as (λ b. eqb k lo ≡ b → filter p (range_with_len lo (suc n)) ≡ k ∷ ks) [
      | true ↦ λ e.
          let is : k ≡ lo = eqb-true k lo e in
          let there : p lo ≡ true = same lo (omega arith) ∙ or_left _ _ e in
          let rest = sifted p n (lo + 1) ks (omega arith) (λ q h. same q (omega arith) ∙ ap (λ b. b || list_any (λ x. eqb x q) ks) (ne_eqb k q (λ s. omega arith))) (rising_equal lo k ks is r.2) in
          subst (λ b. cond b (lo ∷ filter p (range_with_len (lo + 1) n)) (filter p (range_with_len (lo + 1) n)) ≡ k ∷ ks) (sym there) (rw (rest, is) refl)
      | false ↦ λ e.
          let differ : k ≡ lo → ⊥ = eqb-false k lo e in
          let low : lo ≤ k = r.0 in
          let above : lo + 1 ≤ k = omega arith in
          let absent : p lo ≡ false = same lo (omega arith) ∙ or_from _ _ e (not_below (k + 1) lo ks (omega arith) r.2) in
          let rest = sifted p n (lo + 1) (k ∷ ks) (omega arith) (λ q h. same q (omega arith)) (above, r.1, r.2) in
          subst (λ b. cond b (lo ∷ filter p (range_with_len (lo + 1) n)) (filter p (range_with_len (lo + 1) n)) ≡ k ∷ ks) (sym absent) rest
    ] refl

pub tied_is : (q k : ℕ) → eq_by_cmp nat_cmp q k ≡ eqb k q
tied_is q k = unsigned_tied q k ∙ nat_eq_equiv.symm q k

pub among : (q : ℕ) (ks : List ℕ) → list_any (eq_by_cmp nat_cmp q) ks ≡ list_any (λ k. eqb k q) ks
among q [] = refl
among q (k ∷ ks) = rw (tied_is q k, among q ks) refl

-- the set of ascending identifiers has them as its ascending list
pub ascending_keys : (ks : List ℕ) → Rising 1 ks → ascending (from_list ks) ≡ ks
unfolding ascending
ascending_keys ks r = sifted (λ i. contains (from_list ks) i) 65535 1 ks refl (λ q h. contains-from_list nat_cmp_total ks q ∙ among q ks) r

-- ---- the ascending list of a set

-- Each of them is in their range.
pub risen : (lo : ℕ) (ks : List ℕ) (q : ℕ) → Rising lo ks → list_any (λ k. eqb k q) ks ≡ true → (lo ≤ q) × (q < 65536)
risen lo [] q r e = absurd cc
risen lo (k ∷ ks) q r e = elim (or_cases (eqb k q) (list_any (λ k. eqb k q) ks) e) [
  | inl is ↦ let same = eqb-true k q is in (omega (arith, r.0), omega (arith, r.1))
  | inr there ↦ let h = risen (k + 1) ks q r.2 there in (omega (arith, r.0, h.0), h.1)
]

not_above : (lo q : ℕ) (ks : List ℕ) → 65536 ≤ q → Rising lo ks → list_any (λ k. eqb k q) ks ≡ false
not_above lo q [] more r = refl
not_above lo q (k ∷ ks) more r = or_from _ _ (ne_eqb k q (λ e. omega (arith, r.1))) (not_above (k + 1) q ks more r.2)

rising_weaker : (lo : ℕ) (ks : List ℕ) → Rising (lo + 1) ks → Rising lo ks
rising_weaker lo [] r = tt
rising_weaker lo (k ∷ ks) r = (omega (arith, r.0), r.1, r.2)

rising_sifted : (p : ℕ → Bool) (n lo : ℕ) → lo + n ≡ 65536 → Rising lo (filter p (range_with_len lo n))
rising_sifted p zero lo all = tt
rising_sifted p (suc n) lo all =
    let rest = filter p (range_with_len (lo + 1) n) in
    let h = rising_sifted p n (lo + 1) (omega arith) in
    cond_both (p lo) (lo ∷ rest) rest (Rising lo) (λ _. (omega arith, omega arith, h)) (λ _. rising_weaker lo rest h)

sifted_member : (p : ℕ → Bool) (n lo q : ℕ) → lo + n ≡ 65536 → lo ≤ q → q < 65536 → list_any (λ k. eqb k q) (filter p (range_with_len lo n)) ≡ p q
sifted_member p zero lo q all low high = absurd (omega arith)
sifted_member p (suc n) lo q all low high =
    let rest = filter p (range_with_len (lo + 1) n) in
    let P : List ℕ → Type 0 = λ ks. list_any (λ k. eqb k q) ks ≡ p q in
    elim (cases_eq lo q) [
      | inl e ↦ cond_both (p lo) (lo ∷ rest) rest P
          (λ t. or_left (eqb lo q) _ (eq-eqb lo q e) ∙ sym (subst (λ (x : ℕ). p x ≡ true) e t))
          (λ f. not_below (lo + 1) q rest (omega arith) (rising_sifted p n (lo + 1) (omega arith)) ∙ sym (subst (λ (x : ℕ). p x ≡ false) e f))
      | inr ne ↦
          let h = sifted_member p n (lo + 1) q (omega arith) (omega arith) high in
          cond_both (p lo) (lo ∷ rest) rest P (λ _. ap (λ b. b || list_any (λ k. eqb k q) rest) (ne_eqb lo q ne) ∙ h) (λ _. h)
    ]

pub ascending_rises : (r : FinSet nat_cmp) → Rising 1 (ascending r)
unfolding ascending
ascending_rises r = rising_sifted (λ i. contains r i) 65535 1 refl

-- a set of identifiers has those of its ascending list
pub ascending_members : (r : FinSet nat_cmp) → ((i : ℕ) → contains r i ≡ true → IsIdentifier i) → (q : ℕ) → list_any (λ k. eqb k q) (ascending r) ≡ contains r q
unfolding ascending
ascending_members r each q = elim (cases_lt q 1) [
  | inl less ↦ not_below 1 q (ascending r) less (ascending_rises r) ∙ sym (false_from_ne_true (contains r q) (λ e. omega (arith, (each q e).0)))
  | inr low ↦ elim (cases_lt q 65536) [
    | inl high ↦ sifted_member (λ i. contains r i) 65535 1 q refl low high
    | inr more ↦ not_above 1 q (ascending r) more (ascending_rises r) ∙ sym (false_from_ne_true (contains r q) (λ e. omega (arith, (each q e).1)))
  ]
]
