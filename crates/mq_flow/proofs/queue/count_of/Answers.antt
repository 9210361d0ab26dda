use Rattle.std.proofs.Common.{arith}
use Rattle.mq_flow.proofs.Queues.{held_le}
use Rattle.mq_flow.proofs.queue.count_of.Goals as goal

pub overflow_add-count : goal.overflow_add-count
overflow_add-count c = let h = held_le c.args.qos c.args.entries in let i = c.loop-entry.invariant in let few = c.requires in omega (arith, few)
