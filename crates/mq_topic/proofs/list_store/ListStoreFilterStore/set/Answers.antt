use Rattle.mq_topic.proofs.Storing.{ascending-set}
use Rattle.mq_topic.proofs.list_store.ListStoreFilterStore.set.Goals as goal

pub invariant_of-self : goal.invariant_of-self
invariant_of-self c =
    ascending-set c.set_row.result c.args.client c.args.filter c.args.qos c.self.inside.rows.entries c.set_row.new.rows.entries c.set_row.ensures.value c.set_row.ensures.unchanged c.self.invariant
