use Rattle.mq_topic.proofs.Greatest.{Walked}
use Rattle.mq_topic.proofs.list_store.matched.Given as goal

abbrev pub invariant-rows : goal.invariant-rows
invariant-rows l = Walked l.name l.rows.entries l.found.items l.key-iterator
