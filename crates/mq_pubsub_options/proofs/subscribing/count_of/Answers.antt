use Rattle.mq_pubsub_options.proofs.Numbers.{unsigned_read}
use Rattle.mq_pubsub_options.proofs.subscribing.count_of.Goals as goal

pub returns : goal.returns
returns c = unsigned_read 64 _ _ c.get_one.ensures.none c.get_one.ensures.value
