-- Entries in the order of their keys, and the place of a key among them.
use Rattle.std.proofs.Common.{◌≡◌, ℕ, zero, suc, ◌+◌, ◌-◌, ◌<◌, ◌≤◌, Bool, true, false, ◌&&◌, cond, T, List, [], ◌∷◌, ◌++◌, length, get_or, slice_get, Option, Some, None, Result, Ok, Err, refl, sym, ap, subst, ◌∙◌, arith, ltb, lt-ltb, le-ltb, ltb-true, ltb-false}
use Rattle.std.specs.Cmp.{IsTotalOrder}
use Rattle.std.specs.FinMap.{find, put, is_sorted}
use Rattle.std.specs.FinMap.Entries.{below_all}
use Rattle.std.specs.List.{insert, remove, position_or_len, prefix_len}
use Rattle.std.specs.List.Sorted.{IsPartitionedBy}
use Rattle.std.specs.Map.{keys_of, lookup}
use Rattle.std.specs.Option.{option_map_or}
use Rattle.std.specs.Result.{OnErr}
use Rattle.std.specs.Ordering.{eq_by_cmp, is_eq, is_lt, ordering_reverse}
use Rattle.std.specs.declared.cmp.Ordering.{Ordering}
use Rattle.std.specs.declared.cmp.Ordering.TheVariants.{Less, Equal, Greater}
use Rattle.indexmap.specs.IndexMap.{index_before, insert_entry, move_index}
use Rattle.indexmap.proofs.MoveLemmas.{push_moved}

pub T-true : (b : Bool) → b ≡ true → T b
T-true true e = tt
T-true false e = absurd cc

pub true-T : (b : Bool) → T b → b ≡ true
true-T true h = refl
true-T false h = absurd h

both : (a b : Bool) → T a → T b → T (a && b)
both true b p q = q
both false b p q = p

pub first : (a b : Bool) → T (a && b) → T a
first true b h = tt
first false b h = h

pub second : (a b : Bool) → T (a && b) → T b
second true b h = h
second false b h = absurd h

pub on_err : {A E : Type 0} (P : Type 0) (r : Result A E) → P → OnErr r P
on_err P (Ok x) h = tt
on_err P (Err e) h = h

one-more : (n : ℕ) → 1 + n ≡ suc n
one-more n = omega arith

pub less : (r : Ordering) → T (is_lt r) → r ≡ Less
less Less h = refl
less Equal h = absurd h
less Greater h = absurd h

lt-less : (r : Ordering) → is_lt r ≡ true → r ≡ Less
lt-less r e = less r (T-true (is_lt r) e)

-- The number of first elements that pass is the index of the first that doesn't.
pub prefix_len-point : {X : Type 0} (p : X → Bool) (xs : List X) (i : ℕ) → i ≤ length xs
    → ((k : ℕ) (d : X) → k < i → p (get_or xs k d) ≡ true) → ((k : ℕ) (d : X) → i ≤ k → k < length xs → p (get_or xs k d) ≡ false) → i ≡ prefix_len p xs
prefix_len-point p [] i le passes fails = omega arith
prefix_len-point p (x ∷ xs) zero le passes fails = rw (fails 0 x (omega arith) (omega arith)) refl
prefix_len-point p (x ∷ xs) (suc i) le passes fails =
    let rest : i ≡ prefix_len p xs = prefix_len-point p xs i (omega arith) (λ k d a. passes (suc k) d (omega arith)) (λ k d a b. fails (suc k) d (omega arith) (omega arith)) in
    rw (passes 0 x (omega arith)) (omega arith)

-- the entry is below the key
abbrev pub is_under : {K X : Type 0} → (K → K → Ordering) → K → K × X → Bool
is_under R k e = is_lt (R e.0 k)

-- how many entries are
abbrev pub place : {K X : Type 0} → (K → K → Ordering) → K → List (K × X) → ℕ
place R k es = prefix_len (is_under R k) es

-- the value of an entry that has the key
abbrev pub value_at : {K X : Type 0} → (K → K → Ordering) → K → Option (K × X) → Option X
value_at R k None = None
value_at R k (Some e) = cond (eq_by_cmp R k e.0) (Some e.1) None

module _ {K : Type 0} (R : K → K → Ordering) (o : IsTotalOrder R) (k : K) where
  under_less : (x y : K) → R x y ≡ Less → is_lt (R y k) ≡ true → is_lt (R x k) ≡ true
  under_less x y a b = ap is_lt (o.trans x y k a (lt-less _ b))

  reversed : (x : K) (r : Ordering) → R x k ≡ r → R k x ≡ ordering_reverse r
  reversed x r e = o.antisymm k x ∙ ap ordering_reverse e

module _ {K X : Type 0} (R : K → K → Ordering) (o : IsTotalOrder R) (k : K) where
  pub above_less : (x : K) (es : List (K × X)) → T (below_all R x es) → (j : ℕ) (d : K × X) → j < length es → R x (get_or es j d).0 ≡ Less
  above_less x [] h j d l = absurd (omega arith)
  above_less x (e ∷ es) h zero d l = less _ (first _ _ h)
  above_less x (e ∷ es) h (suc j) d l = above_less x es (second _ _ h) j d (omega arith)

  -- those below the key come first
  pub partitioned : (es : List (K × X)) → T (is_sorted R es) → IsPartitionedBy (is_under R k) es
  partitioned [] h i j d a b up = absurd (omega arith)
  partitioned (e ∷ es) h zero zero d a b up = up
  partitioned (e ∷ es) h zero (suc j) d a b up = under_less R o k e.0 _ (above_less e.0 es (first _ _ h) j d (omega arith)) up
  partitioned (e ∷ es) h (suc i) zero d a b up = absurd (omega arith)
  partitioned (e ∷ es) h (suc i) (suc j) d a b up = partitioned es (second _ _ h) i j d (omega arith) (omega arith) up

  -- ---- Looking up a key

  under_all : (x : K) (es : List (K × X)) → R k x ≡ Less → T (below_all R x es) → T (below_all R k es)
  under_all x [] a h = tt
  under_all x (e ∷ es) a h =
      both (is_lt (R k e.0)) (below_all R k es) (subst (λ r. T (is_lt r)) (sym (o.trans k x e.0 a (less _ (first _ _ h)))) tt) (under_all x es a (second _ _ h))

  under_first : (e : K × X) (es : List (K × X)) → R k e.0 ≡ Less → T (is_sorted R (e ∷ es)) → T (below_all R k (e ∷ es))
  under_first e es a h =
      both (is_lt (R k e.0)) (below_all R k es) (subst (λ r. T (is_lt r)) (sym a) tt) (under_all e.0 es a (first _ _ h))

  missing : (es : List (K × X)) → T (below_all R k es) → find R k es ≡ None
  missing [] h = refl
  missing (e ∷ es) h = rw (less (R k e.0) (first _ _ h)) (missing es (second _ _ h))

  find-first : (e : K × X) (es : List (K × X)) (r : Ordering) → R e.0 k ≡ r → T (is_sorted R (e ∷ es))
      → find R k es ≡ value_at R k (slice_get es (place R k es)) → find R k (e ∷ es) ≡ value_at R k (slice_get (e ∷ es) (place R k (e ∷ es)))
  find-first e es Less q h rest = rw (q, reversed R o k e.0 Less q, one-more) rest
  find-first e es Equal q h rest = rw (q, reversed R o k e.0 Equal q) refl
  find-first e es Greater q h rest =
      rw (q, reversed R o k e.0 Greater q) (missing es (under_all e.0 es (reversed R o k e.0 Greater q) (first _ _ h)))

  pub find-place : (es : List (K × X)) → T (is_sorted R es) → find R k es ≡ value_at R k (slice_get es (place R k es))
  find-place [] h = refl
  find-place (e ∷ es) h = find-first e es (R e.0 k) refl h (find-place es (second _ _ h))

-- ---- a list with a first element

module _ {X : Type 0} where
  within : (x : X) (o : Option X) (f : X → List X) (d : List X) → option_map_or (λ y. x ∷ f y) o (x ∷ d) ≡ x ∷ option_map_or f o d
  within x None f d = refl
  within x (Some y) f d = refl

  move_index-suc : (x : X) (xs : List X) (a t : ℕ) → move_index (x ∷ xs) (suc a) (suc t) ≡ x ∷ move_index xs a t
  move_index-suc x xs a t = within x (slice_get xs a) (λ y. insert (remove xs a) t y) xs

index_before-by : (a b : ℕ) (less : Bool) → ltb a b ≡ less → cond less ((1 + b) - 1) (1 + b) ≡ suc (cond less (b - 1) b)
index_before-by a b true e = omega (arith, ltb-true a b e)
index_before-by a b false e = omega arith

ltb-suc : (a b : ℕ) (less : Bool) → ltb a b ≡ less → ltb (1 + a) (1 + b) ≡ less
ltb-suc a b true e = lt-ltb (1 + a) (1 + b) (omega (arith, ltb-true a b e))
ltb-suc a b false e = le-ltb (1 + a) (1 + b) (omega (arith, ltb-false a b e))

index_before-suc : (a b : ℕ) → index_before (1 + a) (1 + b) ≡ suc (index_before a b)
index_before-suc a b = rw (ltb-suc a b (ltb a b) refl) (index_before-by a b (ltb a b) refl)

index_before-zero : (a : ℕ) → index_before a 0 ≡ 0
index_before-zero a = rw (le-ltb a 0 (omega arith)) refl

-- ---- Setting a row

module _ {K X : Type 0} (R : K → K → Ordering) (o : IsTotalOrder R) (k : K) (v : X) (eq : K → K → Bool) (ties : (x : K) → eq k x ≡ is_eq (R k x)) where
  -- the entry is pushed, or its value written, and then it is moved to a place
  abbrev pub moved : List (K × X) → ℕ → List (K × X)
  moved es i = move_index (insert_entry eq es k v) (position_or_len (eq k) (keys_of es)) (index_before (position_or_len (eq k) (keys_of es)) i)

  differs : (x : K) → R k x ≡ Less → eq k x ≡ false
  differs x e = ties x ∙ ap is_eq e

  absent-entry : (es : List (K × X)) → T (below_all R k es) → insert_entry eq es k v ≡ es ++ (k, v) ∷ []
  absent-entry [] h = refl
  absent-entry (e ∷ es) h = rw (differs e.0 (less (R k e.0) (first _ _ h))) (ap (λ (l : List (K × X)). e ∷ l) (absent-entry es (second _ _ h)))

  absent-position : (es : List (K × X)) → T (below_all R k es) → position_or_len (eq k) (keys_of es) ≡ length es
  absent-position [] h = refl
  absent-position (e ∷ es) h = rw (differs e.0 (less (R k e.0) (first _ _ h))) (omega (arith, absent-position es (second _ _ h)))

  moved-first : (e : K × X) (es : List (K × X)) (r : Ordering) → R e.0 k ≡ r → T (is_sorted R (e ∷ es))
      → moved es (place R k es) ≡ put R k v es → moved (e ∷ es) (place R k (e ∷ es)) ≡ put R k v (e ∷ es)
  moved-first e es Less q h rest =
      let back = reversed R o k e.0 Less q in
      let p = position_or_len (eq k) (keys_of es) in
      let n = place R k es in
      let entries : insert_entry eq (e ∷ es) k v ≡ e ∷ insert_entry eq es k v = rw (ties e.0, back) refl in
      let position : position_or_len (eq k) (keys_of (e ∷ es)) ≡ 1 + p = rw (ties e.0, back) refl in
      let later : place R k (e ∷ es) ≡ 1 + n = rw q refl in
      let done : put R k v (e ∷ es) ≡ e ∷ put R k v es = rw back refl in
      (λ i. move_index (entries i) (position i) (index_before (position i) (later i)))
      ∙ (λ i. move_index (e ∷ insert_entry eq es k v) (one-more p i) (index_before-suc p n i))
      ∙ move_index-suc e (insert_entry eq es k v) p (index_before p n)
      ∙ ap (λ (l : List (K × X)). e ∷ l) rest
      ∙ sym done
  moved-first e es Equal q h rest =
      let back = reversed R o k e.0 Equal q in
      rw (q, ties e.0, back) refl
  moved-first e es Greater q h rest =
      let back = reversed R o k e.0 Greater q in
      let all : T (below_all R k (e ∷ es)) = under_first R o k e es back h in
      let xs = e ∷ es in
      let here : place R k (e ∷ es) ≡ 0 = rw q refl in
      let done : put R k v (e ∷ es) ≡ (k, v) ∷ e ∷ es = rw back refl in
      (λ i. move_index (absent-entry xs all i) (absent-position xs all i) (index_before (absent-position xs all i) (here i)))
      ∙ ap (λ (t : ℕ). move_index (xs ++ (k, v) ∷ []) (length xs) t) (index_before-zero (length xs))
      ∙ push_moved xs (k, v) 0 (omega arith)
      ∙ sym done

  pub moved-place : (es : List (K × X)) → T (is_sorted R es) → moved es (place R k es) ≡ put R k v es
  moved-place [] h = refl
  moved-place (e ∷ es) h = moved-first e es (R e.0 k) refl h (moved-place es (second _ _ h))

  pub find-lookup : (es : List (K × X)) → find R k es ≡ lookup (eq k) es
  find-lookup [] = refl
  find-lookup (e ∷ es) = rw (ties e.0) (ap (λ (r : Option X). cond (is_eq (R k e.0)) (Some e.1) r) (find-lookup es))
