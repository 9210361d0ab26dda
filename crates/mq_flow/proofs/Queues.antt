-- Counting messages, and taking an item out of a list.
use Rattle.std.proofs.Common.{◌≡◌, ℕ, zero, suc, ◌+◌, ◌<◌, ◌≤◌, ◌∙◌, Bool, true, false, cond, not, ◌||◌, eqb, ltb, List, [], ◌∷◌, ◌++◌, map, length, get_or, remove, filter, refl, sym, ap, subst, arith, inl, inr}
use Rattle.std.specs.List.{list_any}
use Rattle.std.proofs.lemmas.Bool.{ne_eqb, cases_eq, cond_both, lt-ltb, or_parts}
use Rattle.std.proofs.lemmas.List.{length-map}
use Rattle.mq_topic.specs.declared.qos.Qos.{Qos}
use Rattle.mq_flow.specs.declared.entry.SenderEntry.{SenderEntry}
use Rattle.mq_flow.specs.Sender.{times, same_qos, held}
use Rattle.mq_flow.proofs.Counting.{eqb_self, times_same, times_other, filter_le}

-- ---- the messages of a quality of service

pub held_le : (q : Qos) (es : List SenderEntry) → length (held q es) ≤ length es
held_le q es =
    let h = filter_le (λ (e : SenderEntry). same_qos q e.message.qos) es in
    let k : length (held q es) ≡ length (filter (λ (e : SenderEntry). same_qos q e.message.qos) es) = length-map (filter (λ (e : SenderEntry). same_qos q e.message.qos) es) (λ (e : SenderEntry). (e.id, e.message)) in
    omega arith

-- ---- Removing an item with a number that at most one has

-- some item has the number
pub there_at : {A : Type 0} (f : A → ℕ) (i : ℕ) (xs : List A) (n : ℕ) → n < length xs → ((d : A) → f (get_or xs n d) ≡ i) → 1 ≤ times i (map f xs)
there_at f i [] n l h = absurd (omega arith)
there_at f i (x ∷ xs) zero l h = let k : times i (f x ∷ map f xs) ≡ 1 + times i (map f xs) = rw (h x) (times_same i _) in omega arith
there_at f i (x ∷ xs) (suc n) l h = let k = there_at f i xs n (omega arith) h in omega arith

abbrev pub others : {A : Type 0} → (A → ℕ) → ℕ → List A → List A
others f i xs = filter (λ x. not (eqb (f x) i)) xs

pub others_same : {A : Type 0} (f : A → ℕ) (i : ℕ) (x : A) (xs : List A) → f x ≡ i → others f i (x ∷ xs) ≡ others f i xs
others_same {A} f i x xs e = let P : Bool → Type 0 = λ b. cond (not b) (x ∷ others f i xs) (others f i xs) ≡ others f i xs in subst P (sym (ap (λ (y : ℕ). eqb y i) e ∙ eqb_self i)) refl

pub others_other : {A : Type 0} (f : A → ℕ) (i : ℕ) (x : A) (xs : List A) → (f x ≡ i → ⊥) → others f i (x ∷ xs) ≡ x ∷ others f i xs
others_other {A} f i x xs n = let P : Bool → Type 0 = λ b. cond (not b) (x ∷ others f i xs) (others f i xs) ≡ x ∷ others f i xs in subst P (sym (ne_eqb (f x) i n)) refl

pub others_absent : {A : Type 0} (f : A → ℕ) (i : ℕ) (xs : List A) → times i (map f xs) ≡ 0 → others f i xs ≡ xs
others_absent f i [] z = refl
others_absent {A} f i (x ∷ xs) z =
    elim (cases_eq (f x) i) [
      | inl e ↦ let k : times i (f x ∷ map f xs) ≡ 1 + times i (map f xs) = rw e (times_same i _) in absurd (omega arith)
      | inr n ↦
          let k = times_other i (f x) (map f xs) n in
          others_other f i x xs n ∙ ap (λ (ys : List A). x ∷ ys) (others_absent f i xs (omega arith))
    ]

pub remove_is : {A : Type 0} (f : A → ℕ) (i : ℕ) (xs : List A) (n : ℕ) → n < length xs → ((d : A) → f (get_or xs n d) ≡ i) → times i (map f xs) ≤ 1 → remove xs n ≡ others f i xs
remove_is f i [] n l h t = absurd (omega arith)
remove_is f i (x ∷ xs) zero l h t =
    let k : times i (f x ∷ map f xs) ≡ 1 + times i (map f xs) = rw (h x) (times_same i _) in
    sym (others_same f i x xs (h x) ∙ others_absent f i xs (omega arith))
remove_is {A} f i (x ∷ xs) (suc n) l h t =
    let there = there_at f i xs n (omega arith) h in
    elim (cases_eq (f x) i) [
      | inl e ↦ let k : times i (f x ∷ map f xs) ≡ 1 + times i (map f xs) = rw e (times_same i _) in absurd (omega arith)
      | inr m ↦
          let k = times_other i (f x) (map f xs) m in
          ap (λ (ys : List A). x ∷ ys) (remove_is f i xs n (omega arith) h (omega arith)) ∙ sym (others_other f i x xs m)
    ]

-- whether one has the number
pub any_times : {A : Type 0} (f : A → ℕ) (i : ℕ) (xs : List A) → list_any (λ x. eqb (f x) i) xs ≡ ltb 0 (times i (map f xs))
any_times f i [] = refl
any_times f i (x ∷ xs) =
    elim (cases_eq (f x) i) [
      | inl e ↦
          let k : times i (f x ∷ map f xs) ≡ 1 + times i (map f xs) = rw e (times_same i _) in
          ap (λ b. b || list_any (λ x. eqb (f x) i) xs) (ap (λ (y : ℕ). eqb y i) e ∙ eqb_self i) ∙ sym (lt-ltb 0 (times i (f x ∷ map f xs)) (omega arith))
      | inr n ↦ ap (λ b. b || list_any (λ x. eqb (f x) i) xs) (ne_eqb (f x) i n) ∙ any_times f i xs ∙ ap (ltb 0) (sym (times_other i (f x) (map f xs) n))
    ]

-- A test that fails for a list fails for the remaining list and for the items added.
none_both : (a b c : Bool) → (b ≡ false → c ≡ false) → (a || b) ≡ false → (a || c) ≡ false
none_both true b c k n = n
none_both false b c k n = k n

pub none_push : {A : Type 0} (p : A → Bool) (xs : List A) (y : A) → list_any p xs ≡ false → p y ≡ false → list_any p (xs ++ y ∷ []) ≡ false
none_push p [] y n f = ap (λ b. b || false) f
none_push p (x ∷ xs) y n f = none_both (p x) (list_any p xs) (list_any p (xs ++ y ∷ [])) (λ h. none_push p xs y h f) n

pub none_filter : {A : Type 0} (p t : A → Bool) (xs : List A) → list_any p xs ≡ false → list_any p (filter t xs) ≡ false
none_filter p t [] n = refl
none_filter {A} p t (x ∷ xs) n =
    let parts = or_parts (p x) (list_any p xs) n in
    let rest = none_filter p t xs parts.1 in
    cond_both (t x) (x ∷ filter t xs) (filter t xs) (λ ys. list_any p ys ≡ false) (λ e. ap (λ b. b || list_any p (filter t xs)) parts.0 ∙ rest) (λ e. rest)
