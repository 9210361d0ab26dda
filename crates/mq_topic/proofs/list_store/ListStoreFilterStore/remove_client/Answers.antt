use Rattle.mq_topic.proofs.Storing.{ascending-without_client}
use Rattle.mq_topic.proofs.list_store.ListStoreFilterStore.remove_client.Goals as goal

pub invariant_of-self : goal.invariant_of-self
invariant_of-self c = rw c.drop_client.ensures (ascending-without_client c.args.client c.self.inside.rows.entries c.self.invariant)
