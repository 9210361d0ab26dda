use Rattle.mq_broker.proofs.Counting.{counted}
use Rattle.mq_broker.proofs.missed.count.Goals as goal

pub returns : goal.returns
returns c = counted c.insert.result _ _ _ _ _ c.amount.ensures c.saturating_add-number.ensures c.insert.ensures.entries c.insert.ensures.absent c.insert.ensures.err
