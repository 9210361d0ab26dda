use Rattle.std.proofs.Common.{rules, of_calls, arith, ltb}
use Rattle.std.proofs.lemmas.Fn.{always_returns_same}
use Rattle.mq_tables.proofs.SessionLemmas.{partitioned, point}
use Rattle.mq_tables.proofs.sessions.table.place.Goals as goal

pub returns-clause-value : goal.returns-clause-value
returns-clause-value c =
    let ts = c.args.list.now in
    let parts = c.partition_point.ensures.partitioned (λ t. ltb t.key c.args.key) (always_returns_same _ _ _ (λ a r f k. search (rules, of_calls))) (partitioned c.args.key ts c.requires) in
    point (λ t. ltb t.key c.args.key) ts c.partition_point.result c.partition_point.ensures.bound (λ k d a. parts.0 k d (omega arith) a) (λ k d a b. parts.1 k d a b)
