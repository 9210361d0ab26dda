-- Rows that are set one after another, and then restored.
use Rattle.std.proofs.Common.{◌≡◌, ℕ, Bool, true, false, cond, List, [], ◌∷◌, ◌++◌, Option, Some, None, Result, Ok, Err, OnOk, OnErr, refl, sym, ap, subst, ◌∙◌}
use Rattle.std.proofs.lemmas.Cmp.{tied_itself}
use Rattle.std.specs.Option.{is_some}
use Rattle.std.specs.Prelude.{⊤}
use Rattle.std.specs.Ordering.{is_eq}
use Rattle.std.specs.declared.cmp.Ordering.{Ordering}
use Rattle.std.specs.declared.cmp.Ordering.TheVariants.{Less, Equal, Greater}
use Rattle.mq_topic.specs.declared.qos.Qos.{Qos}
use Rattle.mq_topic.specs.Rows.{Key, Row, is_key, key_cmp, row_qos, with_row, without_row, IsAscending}
use Rattle.mq_topic.specs.StoreLaws.{StoreLaws}
use Rattle.mq_topic.proofs.Keys.{key_cmp-same, key_cmp-total}
use Rattle.mq_tables.specs.Inside.Subscriptions.{AreThere, Before, IsThere, row_back, rows_back}

-- ---- one row

equal : (r : Ordering) → is_eq r ≡ true → r ≡ Equal
equal Less e = absurd cc
equal Equal e = refl
equal Greater e = absurd cc

itself : (k : ℕ) (f : List ℕ) → is_key k f (k, f) ≡ true
itself k f = rw (tied_itself key_cmp-total (k, f)) refl

same_row : (c : ℕ) (g : List ℕ) (k : ℕ) (f : List ℕ) (rows : List Row) → is_key c g (k, f) ≡ true → row_qos c g rows ≡ row_qos k f rows
same_row c g k f rows e = ap (λ (key : Key). row_qos key.0 key.1 rows) (key_cmp-same (c, g) (k, f) (equal (key_cmp (c, g) (k, f)) e))

module _ (laws : StoreLaws) (key : ℕ) (f : List ℕ) where
  -- rows that differ only in that of a filter are equal once it is set back
  pub put_back : (rows after : List Row) → IsAscending rows → IsAscending after
      → ((c : ℕ) (g : List ℕ) → is_key c g (key, f) ≡ false → row_qos c g after ≡ row_qos c g rows) → row_back key f (row_qos key f rows) after ≡ rows
  put_back rows after up up_after others = go (row_qos key f rows) refl
    where
      by : (o : Option Qos) → row_qos key f rows ≡ o → (c : ℕ) (g : List ℕ) (b : Bool) → is_key c g (key, f) ≡ b → cond b o (row_qos c g after) ≡ row_qos c g rows
      by o e c g true same = sym e ∙ sym (same_row c g key f rows same)
      by o e c g false apart = others c g apart

      go : (o : Option Qos) → row_qos key f rows ≡ o → row_back key f o after ≡ rows
      go None e =
          laws.one_list (without_row key f after) rows (laws.removed_ascending key f after up_after) up
          (λ c g. laws.removed key f after c g ∙ by None e c g (is_key c g (key, f)) refl)
      go (Some q) e =
          laws.one_list (with_row key f q after) rows (laws.set_ascending key f q after up_after) up
          (λ c g. laws.set key f q after c g ∙ by (Some q) e c g (is_key c g (key, f)) refl)

  -- a row that was not set is as it was
  pub back_same : (rows : List Row) → IsAscending rows → row_back key f (row_qos key f rows) rows ≡ rows
  back_same rows up = put_back rows rows up up (λ c g apart. refl)

  pub back_set : (q : Qos) (rows : List Row) → IsAscending rows → row_back key f (row_qos key f rows) (with_row key f q rows) ≡ rows
  back_set q rows up =
      put_back rows (with_row key f q rows) up (laws.set_ascending key f q rows up)
      (λ c g apart. laws.set key f q rows c g ∙ ap (λ (b : Bool). cond b (Some q) (row_qos c g rows)) apart)

  pub there_same : (rows : List Row) → IsThere key f (row_qos key f rows) rows
  there_same rows = go (row_qos key f rows) refl
    where
      go : (o : Option Qos) → row_qos key f rows ≡ o → IsThere key f o rows
      go None e = tt
      go (Some q) e = ap is_some e

  pub there_set : (o : Option Qos) (q : Qos) (rows : List Row) → IsThere key f o (with_row key f q rows)
  there_set None q rows = tt
  there_set (Some p) q rows = ap is_some (laws.set key f q rows key f ∙ ap (λ (b : Bool). cond b (Some q) (row_qos key f rows)) (itself key f))

-- ---- all of them

pub back_last : (key : ℕ) (b : Before) (bs : List Before) (rows : List Row) → rows_back key (bs ++ b ∷ []) rows ≡ rows_back key bs (row_back key b.0 b.1 rows)
back_last key b [] rows = refl
back_last key b (x ∷ bs) rows = ap (row_back key x.0 x.1) (back_last key b bs rows)

pub there_last : (key : ℕ) (b : Before) (bs : List Before) (rows : List Row) → IsThere key b.0 b.1 rows → AreThere key bs (row_back key b.0 b.1 rows) → AreThere key (bs ++ b ∷ []) rows
there_last key b [] rows last all = (last, tt)
there_last key b (x ∷ bs) rows last all =
    (subst (IsThere key x.0 x.1) (sym (back_last key b bs rows)) all.0, there_last key b bs rows last all.1)

pub last_there : (key : ℕ) (b : Before) (bs : List Before) (rows : List Row) → AreThere key (bs ++ b ∷ []) rows → IsThere key b.0 b.1 rows × AreThere key bs (row_back key b.0 b.1 rows)
last_there key b [] rows all = (all.0, tt)
last_there key b (x ∷ bs) rows all =
    let rest = last_there key b bs rows all.1 in
    (rest.0, (subst (IsThere key x.0 x.1) (back_last key b bs rows) all.0, rest.1))

-- ---- a row that is set, or for which there is no memory

module _ (laws : StoreLaws) (key : ℕ) (f b : List ℕ) (o : Option Qos) (q : Qos) (rows after : List Row) (bs new : List Before) where
  module _ {E : Type 0} (r : Result ⊤ E) (same : b ≡ f) (was : o ≡ row_qos key f rows) (up : IsAscending rows) (set : OnOk r (after ≡ with_row key f q rows)) (still : OnErr r (after ≡ rows))
      (noted_last : new ≡ bs ++ (b, o) ∷ []) where
    one : row_back key b o after ≡ rows
    one = (λ i. row_back key (same i) (was i) after) ∙ go r set still
      where
        go : (r : Result ⊤ E) → OnOk r (after ≡ with_row key f q rows) → OnErr r (after ≡ rows) → row_back key f (row_qos key f rows) after ≡ rows
        go (Ok x) is other = ap (row_back key f (row_qos key f rows)) is ∙ back_set laws key f q rows up
        go (Err e) other is = ap (row_back key f (row_qos key f rows)) is ∙ back_same laws key f rows up

    there : IsThere key b o after
    there = go r set still
      where
        go : (r : Result ⊤ E) → OnOk r (after ≡ with_row key f q rows) → OnErr r (after ≡ rows) → IsThere key b o after
        go (Ok x) is other = subst (λ (g : List ℕ). IsThere key g o after) (sym same) (subst (IsThere key f o) (sym is) (there_set laws key f o q rows))
        go (Err e) other is =
            subst (λ (g : List ℕ). IsThere key g o after) (sym same)
            (subst (IsThere key f o) (sym is) (subst (λ (p : Option Qos). IsThere key f p rows) (sym was) (there_same laws key f rows)))

    pub noted : rows_back key new after ≡ rows_back key bs rows
    noted = ap (λ (xs : List Before). rows_back key xs after) noted_last ∙ back_last key (b, o) bs after ∙ ap (rows_back key bs) one

    pub noted_there : AreThere key bs rows → AreThere key new after
    noted_there all =
        subst (λ (xs : List Before). AreThere key xs after) (sym noted_last)
        (there_last key (b, o) bs after there (subst (AreThere key bs) (sym one) all))
