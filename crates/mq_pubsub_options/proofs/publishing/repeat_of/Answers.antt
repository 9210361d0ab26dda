use Rattle.mq_pubsub_options.proofs.Numbers.{unsigned_read}
use Rattle.mq_pubsub_options.proofs.publishing.repeat_of.Goals as goal

pub returns : goal.returns
returns c = (c.get_one-repeat.result, unsigned_read 32 _ _ c.get_one-repeat.ensures.none c.get_one-repeat.ensures.value, c.unwrap_or.ensures)
