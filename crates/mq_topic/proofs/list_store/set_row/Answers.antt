use Rattle.std.proofs.Common.{ℕ, Bool, ◌&&◌, eqb, nat_eq, ap, ◌∙◌}
use Rattle.std.specs.Cmp.Lexicographic.{pointwise}
use Rattle.indexmap.specs.IndexMap.{insert_entry, insert_index, move_index}
use Rattle.mq_topic.specs.Rows.{Key, key_cmp}
use Rattle.mq_topic.proofs.Keys.{key_cmp-total, key_ties}
use Rattle.mq_topic.proofs.Placing.{T-true, find-lookup, moved, moved-place, on_err}
use Rattle.mq_topic.proofs.list_store.set_row.Goals as goal

abbrev same_key : Key → Key → Bool
same_key x y = eqb x.0 y.0 && pointwise nat_eq x.1 y.1

pub returns-in_err-insert_before-clause-refused : goal.returns-in_err-insert_before-clause-refused
returns-in_err-insert_before-clause-refused c =
    let key : Key = (c.args.client, c.args.filter) in
    let rows = c.args.rows.now.entries in
    on_err _ c.from_residual.result (find-lookup key_cmp key_cmp-total key c.args.qos same_key (key_ties key) rows ∙ c.in_err-insert_before.ensures.absent)

pub returns-clause-value : goal.returns-clause-value
returns-clause-value c =
    let key : Key = (c.args.client, c.args.filter) in
    let rows = c.args.rows.now.entries in
    c.in_ok-insert_before.ensures.entries
    ∙ ap (λ (n : ℕ). move_index (insert_entry same_key rows key c.args.qos) (insert_index same_key c.args.rows.now key) n) c.in_ok-insert_before.ensures.index
    ∙ ap (λ (n : ℕ). moved key_cmp key_cmp-total key c.args.qos same_key (key_ties key) rows n) c.place-place.ensures.value
    ∙ moved-place key_cmp key_cmp-total key c.args.qos same_key (key_ties key) rows (T-true _ c.requires)
