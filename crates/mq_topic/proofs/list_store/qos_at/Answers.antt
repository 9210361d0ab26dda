use Rattle.std.proofs.Common.{ℕ, Bool, cond, slice_get, sym, ap, ◌∙◌, Some, None}
use Rattle.mq_topic.specs.Rows.{Key, key_cmp}
use Rattle.mq_topic.proofs.Keys.{key_cmp-total}
use Rattle.mq_topic.proofs.Placing.{T-true, find-place, value_at}
use Rattle.mq_topic.proofs.list_store.qos_at.Goals as goal

pub returns-in-Some : goal.returns-in-Some
returns-in-Some c =
    let key : Key = (c.args.client, c.args.filter.now) in
    let rows = c.args.rows.now.entries in
    let look = find-place key_cmp key_cmp-total key rows (T-true _ c.requires) in
    let there = ap (λ (n : ℕ). value_at key_cmp key (slice_get rows n)) (sym c.place.ensures.value) in
    let entry = rw c.in-Some.is at c.get_index.ensures.entry in
    let same = sym c.is_key.ensures ∙ c.if-is_key.true in
    sym (look ∙ there ∙ ap (value_at key_cmp key) (sym entry) ∙ ap (λ (b : Bool). cond b (Some c.in-Some.qos.now) None) same)

pub returns-in_default : goal.returns-in_default
returns-in_default c =
    let key : Key = (c.args.client, c.args.filter.now) in
    let rows = c.args.rows.now.entries in
    let look = find-place key_cmp key_cmp-total key rows (T-true _ c.requires) in
    let there = ap (λ (n : ℕ). value_at key_cmp key (slice_get rows n)) (sym c.place.ensures.value) in
    let entry = rw c.in-Some.is at c.get_index.ensures.entry in
    let other = sym c.is_key.ensures ∙ c.if-is_key.false in
    sym (look ∙ there ∙ ap (value_at key_cmp key) (sym entry) ∙ ap (λ (b : Bool). cond b (Some c.in-Some.qos.now) None) other)

pub returns-in_default-2 : goal.returns-in_default-2
returns-in_default-2 c =
    let key : Key = (c.args.client, c.args.filter.now) in
    let rows = c.args.rows.now.entries in
    let look = find-place key_cmp key_cmp-total key rows (T-true _ c.requires) in
    let there = ap (λ (n : ℕ). value_at key_cmp key (slice_get rows n)) (sym c.place.ensures.value) in
    let entry = rw c.in_default.is at c.get_index.ensures.entry in
    sym (look ∙ there ∙ ap (value_at key_cmp key) (sym entry))
