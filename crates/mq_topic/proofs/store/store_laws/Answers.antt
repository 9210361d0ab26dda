use Rattle.mq_topic.proofs.StoreFacts.{store_facts}
use Rattle.mq_topic.proofs.store.store_laws.Goals as goal

pub returns : goal.returns
returns c = store_facts
