-- The laws of stores.
use Rattle.std.proofs.Common.{◌≡◌, ℕ, Bool, true, false, not, cond, List, None, ◌==◌, refl, sym, ap, ◌∙◌}
use Rattle.std.proofs.lemmas.Cmp.{alike_right, eq_by_cmp_equiv}
use Rattle.std.specs.FinMap.Entries.{find-put, find-where_key, same_entries}
use Rattle.std.specs.Ordering.{is_eq}
use Rattle.mq_topic.specs.Rows.{Key, Row, is_key, key_cmp, matched, row_qos, without_client, without_row}
use Rattle.mq_topic.specs.StoreLaws.{StoreLaws}
use Rattle.mq_topic.proofs.Greatest.{matched-is, matched-once}
use Rattle.mq_topic.proofs.Keys.{key_cmp-same, key_cmp-total}
use Rattle.mq_topic.proofs.Placing.{T-true}
use Rattle.mq_topic.proofs.Storing.{ascending-with_row, ascending-without_client, ascending-without_row}

turned : {A : Type 0} (b : Bool) (x y : A) → cond (not b) x y ≡ cond b y x
turned true x y = refl
turned false x y = refl

without : (c : ℕ) (f : List ℕ) (rows : List Row) (d : ℕ) (g : List ℕ) → row_qos d g (without_row c f rows) ≡ cond (is_key d g (c, f)) None (row_qos d g rows)
without c f rows d g =
    let k : Key = (c, f) in
    let q : Key = (d, g) in
    find-where_key key_cmp (λ x. not (is_key c f x)) q (λ x t. ap (λ r. not (is_eq r)) (sym (alike_right key_cmp-total q x k t))) rows
    ∙ turned (is_key c f q) (row_qos d g rows) None
    ∙ ap (λ (b : Bool). cond b None (row_qos d g rows)) ((eq_by_cmp_equiv key_cmp-total).symm k q)

without_all : (c : ℕ) (rows : List Row) (d : ℕ) (g : List ℕ) → row_qos d g (without_client c rows) ≡ cond (d == c) None (row_qos d g rows)
without_all c rows d g =
    let q : Key = (d, g) in
    find-where_key key_cmp (λ x. not (x.0 == c)) q (λ x t. ap (λ (k : Key). not (k.0 == c)) (sym (key_cmp-same q x t))) rows
    ∙ turned (d == c) (row_qos d g rows) None

pub store_facts : StoreLaws
store_facts = record {
  set = λ c f q rows d g. find-put key_cmp key_cmp-total (d, g) (c, f) q rows;
  removed = without;
  removed_client = without_all;
  set_ascending = ascending-with_row;
  removed_ascending = ascending-without_row;
  removed_client_ascending = ascending-without_client;
  one_list = λ rows others a b same. same_entries key_cmp key_cmp-total key_cmp-same rows others (T-true _ a) (T-true _ b) (λ k. same k.0 k.1);
  greatest_qos = λ name rows. (matched-is name rows).greatest;
  matched_is = matched-is;
  matched_once = λ name rows found h. matched-once name rows found (matched name rows) h (matched-is name rows);
}
