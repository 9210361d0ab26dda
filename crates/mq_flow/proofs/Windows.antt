-- The number of stored identifiers, and the receive window.
use Rattle.std.proofs.Common.{◌≡◌, ℕ, ◌+◌, ◌-◌, ◌<◌, ◌≤◌, max, ◌⊎◌, Bool, true, false, cond, ◌||◌, ltb, Option, Some, None, List, [], ◌∷◌, length, refl, sym, ap, subst, ◌∙◌, arith, inl, inr}
use Rattle.std.proofs.lemmas.Bool.{ltb-true, lt-ltb, cases_eq, false_from_ne_true}
use Rattle.std.specs.FinSet.{FinSet, empty, insert, remove, contains, len, from_list, same_set, nat_cmp-IsAntisymmetric, contains-empty, contains-from_list, len-empty, len-insert, len-remove}
use Rattle.std.specs.Ordering.{nat_cmp}
use Rattle.std.specs.Cmp.{nat_cmp_total}
use Rattle.mq_flow.specs.Sender.{times}
use Rattle.mq_flow.specs.Window.{fits_window, Spans, IsWithin}
use Rattle.mq_flow.proofs.Counting.{times_same, times_other}
use Rattle.mq_flow.proofs.Members.{insert_same, insert_other, remove_same, remove_other}
use Rattle.mq_flow.proofs.Ascending.{Rising, not_below, among}

-- A set of ascending numbers has as many members as there are numbers.
pub len_keys : (lo : ℕ) (ks : List ℕ) → Rising lo ks → len (from_list {R = nat_cmp} ks) ≡ length ks
len_keys lo [] r = len-empty nat_cmp
len_keys lo (k ∷ ks) r =
    let more = len-insert nat_cmp_total (from_list {R = nat_cmp} ks) k in
    let absent : contains (from_list {R = nat_cmp} ks) k ≡ false = contains-from_list nat_cmp_total ks k ∙ among k ks ∙ not_below (k + 1) k ks (omega arith) r.2 in
    let rest = len_keys (k + 1) ks r.2 in
    let set : FinSet nat_cmp = from_list ks in
    let one : len (insert set k) ≡ len set + 1 = subst (λ (b : Bool). len (insert set k) ≡ cond b (len set) (len set + 1)) absent more in
    omega arith

-- A set whose members occur in a list has at most as many members as the list.
pub len_among : (xs : List ℕ) (s : FinSet nat_cmp) → ((j : ℕ) → contains s j ≡ true → 1 ≤ times j xs) → len s ≤ length xs
len_among [] s only =
    let none : s ≡ empty = same_set nat_cmp_total nat_cmp-IsAntisymmetric s empty (λ q. false_from_ne_true (contains s q) (λ e. let h = only q e in omega arith) ∙ sym (contains-empty nat_cmp q)) in
    let size : len s ≡ 0 = ap (λ (t : FinSet nat_cmp). len t) none ∙ len-empty nat_cmp in
    omega arith
len_among (x ∷ xs) s only =
    let rest = len_among xs (remove s x) (λ j e. still j e (cases_eq j x)) in
    fewer (contains s x) (len-remove nat_cmp_total s x) rest
  where
    clash : true ≡ false → ⊥
    clash e = cc

    still : (j : ℕ) → contains (remove s x) j ≡ true → (j ≡ x) ⊎ (j ≡ x → ⊥) → 1 ≤ times j xs
    still j e (inl is) = let gone : contains (remove s x) j ≡ false = ap (λ (k : ℕ). contains (remove s x) k) is ∙ remove_same s x in absurd (clash (sym e ∙ gone))
    still j e (inr differs) =
        let there = only j (sym (remove_other s x j differs) ∙ e) in
        let same = times_other j x xs (λ q. differs (sym q)) in
        omega arith

    fewer : (b : Bool) → len (remove s x) ≡ cond b (len s - 1) (len s) → len (remove s x) ≤ length xs → len s ≤ length (x ∷ xs)
    fewer true e le = omega arith
    fewer false e le = omega arith

-- ---- Staying within a window

pub same_within : (window : Option ℕ) (s : FinSet nat_cmp) → IsWithin window s s
same_within None s = tt
same_within (Some window) s = omega arith

pub within_after : (window : Option ℕ) (r s t : FinSet nat_cmp) → IsWithin window r s → IsWithin window s t → IsWithin window r t
within_after None r s t a b = tt
within_after (Some window) r s t a b = omega (arith, a, b)

pub none_within : (window : Option ℕ) (s : FinSet nat_cmp) → IsWithin window s empty
none_within None s = tt
none_within (Some window) s = let none = len-empty nat_cmp in omega arith

pub removed_within : (window : Option ℕ) (i : ℕ) (s : FinSet nat_cmp) → IsWithin window s (remove s i)
removed_within None i s = tt
removed_within (Some window) i s = by_set (contains s i) (len-remove nat_cmp_total s i)
  where
    by_set : (b : Bool) → len (remove s i) ≡ cond b (len s - 1) (len s) → len (remove s i) ≤ max window (len s)
    by_set true e = omega arith
    by_set false e = omega arith

pub stored_within : (window : Option ℕ) (i : ℕ) (s : FinSet nat_cmp) → fits_window window i s ≡ true → IsWithin window s (insert s i)
stored_within None i s fits = tt
stored_within (Some window) i s fits = by_set (contains s i) (len-insert nat_cmp_total s i) fits
  where
    by_set : (b : Bool) → len (insert s i) ≡ cond b (len s) (len s + 1) → (b || ltb (len s) window) ≡ true → len (insert s i) ≤ max window (len s)
    by_set true e fits = omega arith
    by_set false e fits = let lt : len s < window = ltb-true (len s) window fits in omega arith

-- ---- Messages that always fit

-- If the stored numbers are among those of a list that is no longer than the window, each number of
-- the list fits.
pub spanned_fits : (window : Option ℕ) (capacity i : ℕ) (xs : List ℕ) (s : FinSet nat_cmp) → Spans window capacity → length xs ≤ capacity → ((j : ℕ) → contains s j ≡ true → 1 ≤ times j xs) → 1 ≤ times i xs → fits_window window i s ≡ true
spanned_fits None capacity i xs s spans short only here = refl
spanned_fits (Some window) capacity i xs s spans short only here = by_set (contains s i) refl
  where
    also : (j : ℕ) → contains (insert s i) j ≡ true → (j ≡ i) ⊎ (j ≡ i → ⊥) → 1 ≤ times j xs
    also j e (inl is) = subst (λ (k : ℕ). 1 ≤ times k xs) (sym is) here
    also j e (inr differs) = only j (sym (insert_other s i j differs) ∙ e)

    by_set : (b : Bool) → contains s i ≡ b → (b || ltb (len s) window) ≡ true
    by_set true e = refl
    by_set false e =
        let more : len (insert s i) ≡ len s + 1 = subst (λ b. len (insert s i) ≡ cond b (len s) (len s + 1)) e (len-insert nat_cmp_total s i) in
        let few = len_among xs (insert s i) (λ j there. also j there (cases_eq j i)) in
        lt-ltb (len s) window (omega (arith, spans))
