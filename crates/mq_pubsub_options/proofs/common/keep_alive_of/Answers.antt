use Rattle.mq_pubsub_options.proofs.Numbers.{unsigned_read}
use Rattle.mq_pubsub_options.proofs.common.keep_alive_of.Goals as goal

pub returns : goal.returns
returns c = (c.get_one-keep_alive.result, unsigned_read 16 _ _ c.get_one-keep_alive.ensures.none c.get_one-keep_alive.ensures.value, c.unwrap_or.ensures)
