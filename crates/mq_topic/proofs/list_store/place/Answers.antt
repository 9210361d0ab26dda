use Rattle.std.proofs.Common.{rules, of_calls, arith}
use Rattle.std.proofs.lemmas.Fn.{always_returns_same}
use Rattle.std.specs.Ordering.{is_lt}
use Rattle.mq_topic.specs.Rows.{Key, key_cmp}
use Rattle.mq_topic.proofs.Placing.{T-true, partitioned, prefix_len-point}
use Rattle.mq_topic.proofs.Keys.{key_cmp-total}
use Rattle.mq_topic.proofs.list_store.place.Goals as goal

pub returns-clause-value : goal.returns-clause-value
returns-clause-value c =
    let key : Key = (c.args.client, c.args.filter.now) in
    let rows = c.args.rows.now.entries in
    let point = c.partition_point.ensures.partitioned (λ r. is_lt (key_cmp r.0 key)) (always_returns_same _ _ _ (λ a r f k. search (rules, of_calls))) (partitioned key_cmp key_cmp-total key rows (T-true _ c.requires)) in
    prefix_len-point (λ r. is_lt (key_cmp r.0 key)) rows c.partition_point.result c.partition_point.ensures.bound (λ k d a. point.0 k d (omega arith) a) (λ k d a b. point.1 k d a b)
