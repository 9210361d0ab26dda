-- The greatest QoS of each client's matching rows, row by row.
use Rattle.std.proofs.Common.{◌≡◌, ℕ, ◌≤◌, Bool, true, false, ◌&&◌, cond, T, IsTrue, eqb, List, [], ◌∷◌, Option, Some, None, refl, sym, ap, ◌∙◌, arith, eqb-true}
use Rattle.std.proofs.lemmas.Cmp.{nat_cmp_total, nat_eq_equiv, ranked}
use Rattle.std.specs.FinMap.{put, is_sorted, nat_cmp-IsAntisymmetric}
use Rattle.std.specs.FinMap.Entries.{below_all, find-put, is_sorted-put, same_entries}
use Rattle.std.specs.Ordering.{eq_by_cmp, nat_cmp, ordering_then}
use Rattle.std.specs.Cmp.Lexicographic.{slice_cmp}
use Rattle.std.specs.declared.cmp.Ordering.{Ordering}
use Rattle.std.specs.declared.cmp.Ordering.TheVariants.{Less, Equal, Greater}
use Rattle.mq_topic.specs.Matching.{is_match}
use Rattle.mq_topic.specs.Qos.{greater}
use Rattle.mq_topic.specs.Rows.{IsMatched, Row, greater_of, greatest, key_cmp, matched, matching_qos, qos_of}
use Rattle.mq_topic.specs.Inside.Rows.{UpTo}
use Rattle.mq_topic.specs.declared.qos.Qos.{Qos}
use Rattle.mq_topic.specs.declared.qos.Qos.TheVariants.{Q0, Q1, Q2}
use Rattle.mq_topic.proofs.Keys.{nat_ties}
use Rattle.mq_topic.proofs.Placing.{T-true, true-T, first, second, less}

pub greater-swap : (p q : Qos) → greater p q ≡ greater q p
greater-swap Q0 Q0 = refl
greater-swap Q0 Q1 = refl
greater-swap Q0 Q2 = refl
greater-swap Q1 Q0 = refl
greater-swap Q1 Q1 = refl
greater-swap Q1 Q2 = refl
greater-swap Q2 Q0 = refl
greater-swap Q2 Q1 = refl
greater-swap Q2 Q2 = refl

greater-turn : (p q g : Qos) → greater p (greater g q) ≡ greater (greater p q) g
greater-turn Q0 q g = greater-swap g q
greater-turn Q2 q g = refl
greater-turn Q1 Q0 Q0 = refl
greater-turn Q1 Q0 Q1 = refl
greater-turn Q1 Q0 Q2 = refl
greater-turn Q1 Q1 Q0 = refl
greater-turn Q1 Q1 Q1 = refl
greater-turn Q1 Q1 Q2 = refl
greater-turn Q1 Q2 Q0 = refl
greater-turn Q1 Q2 Q1 = refl
greater-turn Q1 Q2 Q2 = refl

-- The greater of two optional ones.
abbrev pub joined : Option Qos → Option Qos → Option Qos
joined None g = g
joined (Some p) None = Some p
joined (Some p) (Some g) = Some (greater p g)

joined-none : (p : Option Qos) → joined p None ≡ p
joined-none None = refl
joined-none (Some p) = refl

joined-turn : (p : Option Qos) (q : Qos) (g : Option Qos) → joined p (Some (greater_of q g)) ≡ joined (Some (greater_of q p)) g
joined-turn None q None = refl
joined-turn None q (Some g) = ap (λ (x : Qos). Some x) (greater-swap g q)
joined-turn (Some p) q None = refl
joined-turn (Some p) q (Some g) = ap (λ (x : Qos). Some x) (greater-turn p q g)

-- ---- one more row

same_client : (c d : ℕ) → eq_by_cmp nat_cmp c d ≡ eqb d c
same_client c d = sym (nat_ties c d) ∙ nat_eq_equiv.symm c d

module _ (name : List ℕ) where
  row_passes : (c : ℕ) (r : Row) (rows : List Row) → is_match r.0.1 name ≡ true → eqb r.0.0 c ≡ true
      → matching_qos c name (r ∷ rows) ≡ r.1 ∷ matching_qos c name rows
  row_passes c r rows m e = rw (m, e) refl

  row_of_other : (c : ℕ) (r : Row) (rows : List Row) → eqb r.0.0 c ≡ false → matching_qos c name (r ∷ rows) ≡ matching_qos c name rows
  row_of_other c r rows e = rw e refl

  and-no : (b : Bool) → (b && false) ≡ false
  and-no true = refl
  and-no false = refl

  row_fails : (c : ℕ) (r : Row) (rows : List Row) → is_match r.0.1 name ≡ false → matching_qos c name (r ∷ rows) ≡ matching_qos c name rows
  row_fails c r rows m = rw (m, and-no (eqb r.0.0 c)) refl

  -- an entry takes the row's QoS
  abbrev pub noted : Row → List (ℕ × Qos) → List (ℕ × Qos)
  noted r found = put nat_cmp r.0.0 (greater_of r.1 (qos_of r.0.0 found)) found

  noted-qos-by : (c : ℕ) (r : Row) (found : List (ℕ × Qos)) (same : Bool) → eqb r.0.0 c ≡ same
      → qos_of c (noted r found) ≡ cond same (Some (greater_of r.1 (qos_of c found))) (qos_of c found)
  noted-qos-by c r found true e =
      find-put nat_cmp nat_cmp_total c r.0.0 (greater_of r.1 (qos_of r.0.0 found)) found
      ∙ ap (λ (b : Bool). cond b (Some (greater_of r.1 (qos_of r.0.0 found))) (qos_of c found)) (same_client c r.0.0 ∙ e)
      ∙ ap (λ (d : ℕ). Some (greater_of r.1 (qos_of d found))) (eqb-true r.0.0 c e)
  noted-qos-by c r found false e =
      find-put nat_cmp nat_cmp_total c r.0.0 (greater_of r.1 (qos_of r.0.0 found)) found
      ∙ ap (λ (b : Bool). cond b (Some (greater_of r.1 (qos_of r.0.0 found))) (qos_of c found)) (same_client c r.0.0 ∙ e)

  -- ---- the definition

  noted-sorted : (b : Bool) (r : Row) (found : List (ℕ × Qos)) → T (is_sorted nat_cmp found) → T (is_sorted nat_cmp (cond b (noted r found) found))
  noted-sorted true r found h = is_sorted-put nat_cmp nat_cmp_total r.0.0 _ found h
  noted-sorted false r found h = h

  matched-sorted : (rows : List Row) → T (is_sorted nat_cmp (matched name rows))
  matched-sorted [] = tt
  matched-sorted (r ∷ rows) = noted-sorted (is_match r.0.1 name) r (matched name rows) (matched-sorted rows)

  matched-first : (c : ℕ) (r : Row) (rows : List Row) (b same : Bool) → is_match r.0.1 name ≡ b → eqb r.0.0 c ≡ same
      → qos_of c (matched name rows) ≡ greatest (matching_qos c name rows) → qos_of c (matched name (r ∷ rows)) ≡ greatest (matching_qos c name (r ∷ rows))
  matched-first c r rows false same m e rest =
      ap (λ (b : Bool). qos_of c (cond b (noted r (matched name rows)) (matched name rows))) m
      ∙ rest ∙ ap greatest (sym (row_fails c r rows m))
  matched-first c r rows true true m e rest =
      ap (λ (b : Bool). qos_of c (cond b (noted r (matched name rows)) (matched name rows))) m
      ∙ noted-qos-by c r (matched name rows) true e
      ∙ ap (λ (g : Option Qos). Some (greater_of r.1 g)) rest ∙ ap greatest (sym (row_passes c r rows m e))
  matched-first c r rows true false m e rest =
      ap (λ (b : Bool). qos_of c (cond b (noted r (matched name rows)) (matched name rows))) m
      ∙ noted-qos-by c r (matched name rows) false e
      ∙ rest ∙ ap greatest (sym (row_of_other c r rows e))

  matched-qos : (c : ℕ) (rows : List Row) → qos_of c (matched name rows) ≡ greatest (matching_qos c name rows)
  matched-qos c [] = refl
  matched-qos c (r ∷ rows) = matched-first c r rows _ _ refl refl (matched-qos c rows)

  pub matched-is : (rows : List Row) → IsMatched name rows (matched name rows)
  matched-is rows = record { ascending = true-T _ (matched-sorted rows); greatest = λ c. matched-qos c rows }

  -- there is only one such list
  pub matched-once : (rows : List Row) (found other : List (ℕ × Qos)) → IsMatched name rows found → IsMatched name rows other → found ≡ other
  matched-once rows found other f g =
      same_entries nat_cmp nat_cmp_total nat_cmp-IsAntisymmetric found other (T-true _ f.ascending) (T-true _ g.ascending) (λ c. f.greatest c ∙ sym (g.greatest c))

  -- ---- the walk over the rows

  -- and at most those of the rows
  abbrev pub UpToRows : List (ℕ × Qos) → List Row → Type 0
  UpToRows found [] = Unit {0}
  UpToRows found (r ∷ rows) = UpTo r.0.0 found × UpToRows found rows

  -- The result for the rows so far, and the remaining rows.
  pub record Walked (all : List Row) (found : List (ℕ × Qos)) (left : List Row) : Type 0 where
    pub sorted : T (is_sorted nat_cmp found)
    pub ascending : T (is_sorted key_cmp left)
    pub below : UpToRows found left
    pub total : (c : ℕ) → joined (qos_of c found) (greatest (matching_qos c name left)) ≡ greatest (matching_qos c name all)

  below-none : (rows : List Row) → UpToRows [] rows
  below-none [] = tt
  below-none (r ∷ rows) = (tt, below-none rows)

  pub walked-start : (rows : List Row) → IsTrue (is_sorted key_cmp rows) → Walked rows [] rows
  walked-start rows h = record { sorted = tt; ascending = T-true _ h; below = below-none rows; total = λ c. refl }

  pub walked-end : (rows : List Row) (found : List (ℕ × Qos)) → Walked rows found [] → IsMatched name rows found
  walked-end rows found w = record { ascending = true-T _ w.sorted; greatest = λ c. sym (joined-none (qos_of c found)) ∙ w.total c }

  pub walked-past : (rows left : List Row) (found : List (ℕ × Qos)) (r : Row) → is_match r.0.1 name ≡ false → Walked rows found (r ∷ left) → Walked rows found left
  walked-past rows left found r m w =
      record {
        sorted = w.sorted;
        ascending = second _ _ w.ascending;
        below = w.below.1;
        total = λ c. ap (λ (l : List Qos). joined (qos_of c found) (greatest l)) (sym (row_fails c r left m)) ∙ w.total c;
      }

  up_to_put-by : (c d : ℕ) (q : Qos) (e : ℕ × Qos) (es : List (ℕ × Qos)) (o : Ordering) → nat_cmp d e.0 ≡ o → d ≤ c → e.0 ≤ c → UpTo c es
      → UpTo c (put nat_cmp d q es) → UpTo c (put nat_cmp d q (e ∷ es))
  up_to_put-by c d q e es Less p le first h rest = rw p (le, (first, h))
  up_to_put-by c d q e es Equal p le first h rest = rw p (first, h)
  up_to_put-by c d q e es Greater p le first h rest = rw p (first, rest)

  up_to_put : (c d : ℕ) (q : Qos) (es : List (ℕ × Qos)) → d ≤ c → UpTo c es → UpTo c (put nat_cmp d q es)
  up_to_put c d q [] le h = (le, tt)
  up_to_put c d q (e ∷ es) le h = up_to_put-by c d q e es (nat_cmp d e.0) refl le h.0 h.1 (up_to_put c d q es le h.1)

  not-greater : (a b : ℕ) (o s : Ordering) → nat_cmp a b ≡ o → ordering_then o s ≡ Less → a ≤ b
  not-greater a b Less s p e = omega (arith, ranked a b Less (sym p))
  not-greater a b Equal s p e = omega (arith, ranked a b Equal (sym p))
  not-greater a b Greater s p e = absurd cc

  below_put : (d : ℕ) (f : List ℕ) (q p : Qos) (found : List (ℕ × Qos)) (left : List Row) → T (below_all key_cmp (d, f) left) → UpToRows found left → UpToRows (put nat_cmp d p found) left
  below_put d f q p found [] a h = tt
  below_put d f q p found (r ∷ left) a h =
      (up_to_put r.0.0 d p found (not-greater d r.0.0 _ (slice_cmp nat_cmp f r.0.1) refl (less _ (first _ _ a))) h.0, below_put d f q p found left (second _ _ a) h.1)

  total_noted : (all left : List Row) (found : List (ℕ × Qos)) (r : Row) (c : ℕ) (same : Bool) → is_match r.0.1 name ≡ true → eqb r.0.0 c ≡ same
      → joined (qos_of c found) (greatest (matching_qos c name (r ∷ left))) ≡ greatest (matching_qos c name all)
      → joined (qos_of c (noted r found)) (greatest (matching_qos c name left)) ≡ greatest (matching_qos c name all)
  total_noted all left found r c true m e t =
      ap (λ (o : Option Qos). joined o (greatest (matching_qos c name left))) (noted-qos-by c r found true e)
      ∙ sym (joined-turn (qos_of c found) r.1 (greatest (matching_qos c name left)))
      ∙ ap (λ (l : List Qos). joined (qos_of c found) (greatest l)) (sym (row_passes c r left m e)) ∙ t
  total_noted all left found r c false m e t =
      ap (λ (o : Option Qos). joined o (greatest (matching_qos c name left))) (noted-qos-by c r found false e)
      ∙ ap (λ (l : List Qos). joined (qos_of c found) (greatest l)) (sym (row_of_other c r left e)) ∙ t

  pub walked-noted : (rows left : List Row) (found : List (ℕ × Qos)) (r : Row) → is_match r.0.1 name ≡ true → Walked rows found (r ∷ left) → Walked rows (noted r found) left
  walked-noted rows left found r m w =
      record {
        sorted = is_sorted-put nat_cmp nat_cmp_total r.0.0 _ found w.sorted;
        ascending = second _ _ w.ascending;
        below = below_put r.0.0 r.0.1 r.1 _ found left (first _ _ w.ascending) w.below.1;
        total = λ c. total_noted rows left found r c _ m refl (w.total c);
      }
