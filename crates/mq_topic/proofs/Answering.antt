-- The result of a look-up, from the clients that the walk added.
use Rattle.std.proofs.Common.{◌≡◌, ◌⊎◌, inl, inr, ℕ, Bool, true, false, ◌&&◌, cond, T, eqb, IsTrue, List, [], ◌∷◌, map, filter, Option, Some, None, refl, sym, ap, subst, ◌∙◌, eqb-true}
use Rattle.std.specs.FinMap.{is_sorted}
use Rattle.std.specs.FinMap.Entries.{below_all}
use Rattle.std.specs.Ordering.{eq_by_cmp, is_eq, is_lt, nat_cmp}
use Rattle.std.specs.declared.cmp.Ordering.{Ordering}
use Rattle.std.specs.declared.cmp.Ordering.TheVariants.{Equal, Greater, Less}
use Rattle.std.proofs.lemmas.Bool.{and_parts}
use Rattle.std.proofs.lemmas.Cmp.{eq_by_cmp_equiv, nat_eq_equiv, tied_itself}
use Rattle.mq_topic.specs.Inside.Found.{Entries, Gathers}
use Rattle.mq_topic.specs.Matching.{is_match}
use Rattle.mq_topic.specs.Qos.{greater}
use Rattle.mq_topic.specs.Rows.{IsAscending, IsMatched, Key, Row, greater_of, greatest, key_cmp, matching_qos, qos_of, row_qos}
use Rattle.mq_topic.specs.declared.qos.Qos.{Qos}
use Rattle.mq_topic.specs.declared.qos.Qos.TheVariants.{Q0, Q1, Q2}
use Rattle.mq_topic.proofs.Greatest.{greater-swap}
use Rattle.mq_topic.proofs.Keys.{key_cmp-same, key_cmp-total}
use Rattle.mq_topic.proofs.Placing.{T-true, first, less, second}
use Rattle.mq_topic.proofs.Searching.{Matches}

-- ---- the greatest of a list

abbrev In : Qos → List Qos → Type 0
In q [] = ⊥
In q (p ∷ qs) = (q ≡ p) ⊎ In q qs

pick : (p q : Qos) → (greater p q ≡ q) ⊎ (greater p q ≡ p)
pick Q0 q = inl refl
pick Q2 q = inr refl
pick Q1 Q0 = inr refl
pick Q1 Q1 = inl refl
pick Q1 Q2 = inl refl

greatest-by : (g q : Qos) (o : Option Qos) → Some (greater_of q o) ≡ Some g → (g ≡ q) ⊎ (o ≡ Some g)
greatest-by g q None e = inl cc
greatest-by g q (Some p) e =
    let value : greater p q ≡ g = cc in
    elim (pick p q) [
      | inl a ↦ inl (sym value ∙ a)
      | inr b ↦ inr (ap (λ (x : Qos). Some x) (sym b ∙ value))
    ]

greatest_in : (qs : List Qos) (g : Qos) → greatest qs ≡ Some g → In g qs
greatest_in [] g e = absurd cc
greatest_in (q ∷ qs) g e =
    elim (greatest-by g q (greatest qs) e) [
      | inl same ↦ inl same
      | inr more ↦ inr (greatest_in qs g more)
    ]

first_greatest : (p : Qos) (qs : List Qos) (o : Option Qos) → greatest qs ≡ o → ((q : Qos) → In q qs → greater q p ≡ p) → Some (greater_of p o) ≡ Some p
first_greatest p qs None e all = refl
first_greatest p qs (Some g) e all = ap (λ (x : Qos). Some x) (all g (greatest_in qs g e))

greatest_is : (qs : List Qos) (p : Qos) → In p qs → ((q : Qos) → In q qs → greater q p ≡ p) → greatest qs ≡ Some p
greatest_is [] p h all = absurd h
greatest_is (q ∷ qs) p (inl e) all =
    ap (λ x. Some (greater_of x (greatest qs))) (sym e) ∙ first_greatest p qs (greatest qs) refl (λ r i. all r (inr i))
greatest_is (q ∷ qs) p (inr h) all =
    ap (λ o. Some (greater_of q o)) (greatest_is qs p h (λ r i. all r (inr i))) ∙ ap (λ (x : Qos). Some x) (greater-swap p q ∙ all q (inl refl))

unique : (qs : List Qos) (o : Option Qos) → ((q : Qos) → In q qs → (p : Qos) × (o ≡ Some p) × (greater q p ≡ p)) → ((q : Qos) → o ≡ Some q → In q qs) → o ≡ greatest qs
unique [] None covers has = refl
unique (q ∷ qs) None covers has = absurd (let w = covers q (inl refl) in let e = w.1 in cc)
unique qs (Some p) covers has =
    sym (greatest_is qs p (has p refl) (λ q i.
    let w = covers q i in
    let same : p ≡ w.0 = (let e = w.1 in cc) in
    subst (λ x. greater q x ≡ x) (sym same) w.2))

-- ---- the rows in the list

abbrev HasRow : ℕ → List ℕ → Qos → List Row → Type 0
HasRow c f q [] = ⊥
HasRow c f q (r ∷ rows) = ((r.0.0 ≡ c) × (r.0.1 ≡ f) × (r.1 ≡ q)) ⊎ HasRow c f q rows

found_first : (c : ℕ) (f : List ℕ) (q : Qos) (r : Row) (rows : List Row) → (r.0.0 ≡ c) × (r.0.1 ≡ f) × (r.1 ≡ q) → row_qos c f (r ∷ rows) ≡ Some q
found_first c f q r rows h =
    let key : r.0 ≡ (c, f) = λ i. (h.0 i, h.1 i) in
    let tie : eq_by_cmp key_cmp (c, f) r.0 ≡ true = ap (eq_by_cmp key_cmp (c, f)) key ∙ ap is_eq (tied_itself key_cmp-total (c, f)) in
    ap (λ b. cond b (Some r.1) (row_qos c f rows)) tie ∙ ap (λ (x : Qos). Some x) h.2

below_row : (k : Key) (c : ℕ) (f : List ℕ) (q : Qos) (rows : List Row) → T (below_all key_cmp k rows) → HasRow c f q rows → key_cmp k (c, f) ≡ Less
below_row k c f q [] h g = absurd g
below_row k c f q (r ∷ rows) h (inl g) = ap (key_cmp k) (λ i. (sym g.0 i, sym g.1 i)) ∙ less (key_cmp k r.0) (first (is_lt (key_cmp k r.0)) (below_all key_cmp k rows) h)
below_row k c f q (r ∷ rows) h (inr g) = below_row k c f q rows (second (is_lt (key_cmp k r.0)) (below_all key_cmp k rows) h) g

found_row : (c : ℕ) (f : List ℕ) (q : Qos) (rows : List Row) → T (is_sorted key_cmp rows) → HasRow c f q rows → row_qos c f rows ≡ Some q
found_row c f q [] s h = absurd h
found_row c f q (r ∷ rows) s (inl h) = found_first c f q r rows h
found_row c f q (r ∷ rows) s (inr h) =
    let lt = below_row r.0 c f q rows (first (below_all key_cmp r.0 rows) (is_sorted key_cmp rows) s) h in
    let apart : eq_by_cmp key_cmp (c, f) r.0 ≡ false = (eq_by_cmp_equiv key_cmp-total).symm (c, f) r.0 ∙ ap is_eq lt in
    ap (λ b. cond b (Some r.1) (row_qos c f rows)) apart ∙ found_row c f q rows (second (below_all key_cmp r.0 rows) (is_sorted key_cmp rows) s) h

equal : (o : Ordering) → is_eq o ≡ true → o ≡ Equal
equal Less e = absurd cc
equal Equal e = refl
equal Greater e = absurd cc

row-by : (c : ℕ) (f : List ℕ) (q : Qos) (r : Row) (rows : List Row) (b : Bool) → eq_by_cmp key_cmp (c, f) r.0 ≡ b → cond b (Some r.1) (row_qos c f rows) ≡ Some q
    → ((row_qos c f rows ≡ Some q) → HasRow c f q rows) → HasRow c f q (r ∷ rows)
row-by c f q r rows true key e tail =
    let same = key_cmp-same (c, f) r.0 (equal (key_cmp (c, f) r.0) key) in
    inl (sym (ap (λ (k : Key). k.0) same), sym (ap (λ (k : Key). k.1) same), cc)
row-by c f q r rows false key e tail = inr (tail e)

row_there : (c : ℕ) (f : List ℕ) (q : Qos) (rows : List Row) → row_qos c f rows ≡ Some q → HasRow c f q rows
row_there c f q [] e = absurd cc
row_there c f q (r ∷ rows) e = row-by c f q r rows (eq_by_cmp key_cmp (c, f) r.0) refl e (λ tail. row_there c f q rows tail)

-- ---- those that match

module _ (c : ℕ) (name : List ℕ) where
  chosen-by : (q : Qos) (r : Row) (rows : List Row) (b : Bool) → (eqb r.0.0 c && is_match r.0.1 name) ≡ b
      → In q (map (λ (x : Row). x.1) (cond b (r ∷ filter (λ x. eqb x.0.0 c && is_match x.0.1 name) rows) (filter (λ x. eqb x.0.0 c && is_match x.0.1 name) rows)))
      → (In q (matching_qos c name rows) → (f : List ℕ) × HasRow c f q rows × (is_match f name ≡ true)) → (f : List ℕ) × HasRow c f q (r ∷ rows) × (is_match f name ≡ true)
  chosen-by q r rows true test (inl e) tail = let p = and_parts (eqb r.0.0 c) (is_match r.0.1 name) test in (r.0.1, inl (eqb-true r.0.0 c p.0, refl, sym e), p.1)
  chosen-by q r rows true test (inr h) tail = let w = tail h in (w.0, inr w.1, w.2)
  chosen-by q r rows false test h tail = let w = tail h in (w.0, inr w.1, w.2)

  chosen : (q : Qos) (rows : List Row) → In q (matching_qos c name rows) → (f : List ℕ) × HasRow c f q rows × (is_match f name ≡ true)
  chosen q [] h = absurd h
  chosen q (r ∷ rows) h = chosen-by q r rows (eqb r.0.0 c && is_match r.0.1 name) refl h (λ g. chosen q rows g)

  kept-by : (q : Qos) (r : Row) (rows : List Row) (b : Bool) → In q (matching_qos c name rows)
      → In q (map (λ (x : Row). x.1) (cond b (r ∷ filter (λ x. eqb x.0.0 c && is_match x.0.1 name) rows) (filter (λ x. eqb x.0.0 c && is_match x.0.1 name) rows)))
  kept-by q r rows true h = inr h
  kept-by q r rows false h = h

  member : (f : List ℕ) (q : Qos) (rows : List Row) → HasRow c f q rows → is_match f name ≡ true → In q (matching_qos c name rows)
  member f q [] h m = absurd h
  member f q (r ∷ rows) (inl h) m =
      let client : eqb r.0.0 c ≡ true = ap (λ x. eqb x c) h.0 ∙ nat_eq_equiv.refl c in
      let match : is_match r.0.1 name ≡ true = ap (λ x. is_match x name) h.1 ∙ m in
      let test : (eqb r.0.0 c && is_match r.0.1 name) ≡ true = λ i. client i && match i in
      subst (λ b. In q (map (λ (x : Row). x.1) (cond b (r ∷ filter (λ x. eqb x.0.0 c && is_match x.0.1 name) rows) (filter (λ x. eqb x.0.0 c && is_match x.0.1 name) rows)))) (sym test) (inl (sym h.2))
  member f q (r ∷ rows) (inr h) m = kept-by q r rows (eqb r.0.0 c && is_match r.0.1 name) (member f q rows h m)

pub answered : (name : List ℕ) (rows : List Row) (found : Entries) → IsAscending rows → IsTrue (is_sorted nat_cmp found) → Gathers (Matches (λ c f. row_qos c f rows) name) [] found → IsMatched name rows found
answered name rows found s ascending g = record {
  ascending = ascending;
  greatest = λ c. unique (matching_qos c name rows) (qos_of c found)
      (λ q i. let w = chosen c name q rows i in g.finds c q (w.0, found_row c w.0 q rows (T-true _ s) w.1, w.2))
      (λ q e. elim (g.sound c q e) [
        | inl none ↦ absurd cc
        | inr m ↦ member c name m.0 q rows (row_there c m.0 q rows m.1) m.2
      ]);
}
