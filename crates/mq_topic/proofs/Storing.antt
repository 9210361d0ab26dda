-- That the rows of a store stay in ascending order.
use Rattle.std.proofs.Common.{◌≡◌, ℕ, Bool, true, false, not, List, [], ◌∷◌, filter, Result, Ok, Err, is_some, ◌==◌, refl, sym, ap, subst}
use Rattle.std.specs.FinMap.{find}
use Rattle.std.specs.FinMap.Entries.{is_sorted-put, is_sorted-where_key}
use Rattle.std.specs.Ordering.{eq_by_cmp}
use Rattle.std.specs.Result.{OnErr, OnOk}
use Rattle.mq_topic.specs.Rows.{IsAscending, Key, Row, is_key, key_cmp, with_row, without_client, without_row}
use Rattle.mq_topic.specs.declared.qos.Qos.{Qos}
use Rattle.mq_topic.proofs.Keys.{key_cmp-total}
use Rattle.mq_topic.proofs.Placing.{T-true, true-T}

pub ascending-with_row : (client : ℕ) (f : List ℕ) (qos : Qos) (rows : List Row) → IsAscending rows → IsAscending (with_row client f qos rows)
ascending-with_row client f qos rows h = true-T _ (is_sorted-put key_cmp key_cmp-total (client, f) qos rows (T-true _ h))

pub ascending-without_row : (client : ℕ) (f : List ℕ) (rows : List Row) → IsAscending rows → IsAscending (without_row client f rows)
ascending-without_row client f rows h = true-T _ (is_sorted-where_key key_cmp (λ k. not (is_key client f k)) rows (T-true _ h))

pub ascending-without_client : (client : ℕ) (rows : List Row) → IsAscending rows → IsAscending (without_client client rows)
ascending-without_client client rows h = true-T _ (is_sorted-where_key key_cmp (λ k. not (k.0 == client)) rows (T-true _ h))

-- the rows after a row was set, or refused
pub ascending-set : {A E : Type 0} (r : Result A E) (client : ℕ) (f : List ℕ) (qos : Qos) (old new : List Row) → OnOk r (new ≡ with_row client f qos old) → OnErr r (new ≡ old) → IsAscending old → IsAscending new
ascending-set (Ok x) client f qos old new e u h = subst IsAscending (sym e) (ascending-with_row client f qos old h)
ascending-set (Err x) client f qos old new e u h = subst IsAscending (sym u) h

absent-first : (key : Key) (r : Row) (rows : List Row) (b : Bool) → eq_by_cmp key_cmp key r.0 ≡ b → is_some (find key_cmp key (r ∷ rows)) ≡ false
    → (is_some (find key_cmp key rows) ≡ false → filter (λ s. not (eq_by_cmp key_cmp key s.0)) rows ≡ rows) → filter (λ s. not (eq_by_cmp key_cmp key s.0)) (r ∷ rows) ≡ r ∷ rows
absent-first key r rows true e none rest = absurd (let h : true ≡ false = rw e at none in cc)
absent-first key r rows false e none rest =
    let tail : is_some (find key_cmp key rows) ≡ false = rw e at none in
    rw e (ap (λ (l : List Row). r ∷ l) (rest tail))

-- removing a missing row changes nothing
pub without_absent : (key : Key) (rows : List Row) → is_some (find key_cmp key rows) ≡ false → filter (λ s. not (eq_by_cmp key_cmp key s.0)) rows ≡ rows
without_absent key [] none = refl
without_absent key (r ∷ rows) none = absent-first key r rows _ refl none (without_absent key rows)
