use Rattle.std.proofs.Common.{rules}
use Rattle.mq_pubsub_options.proofs.Numbers.{unsigned_read}
use Rattle.mq_pubsub_options.proofs.values.qos_of.Goals as goal

pub returns-in-Some : goal.returns-in-Some
returns-in-Some c = (c.get_one-number.result, unsigned_read 8 _ _ c.get_one-number.ensures.none c.get_one-number.ensures.value, search rules)
