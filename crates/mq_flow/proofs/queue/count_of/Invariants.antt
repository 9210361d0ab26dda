use Rattle.std.proofs.Common.{◌≡◌, length, ◌+◌}
use Rattle.mq_flow.specs.Sender.{held}
use Rattle.mq_flow.proofs.queue.count_of.Given as goal

abbrev pub invariant-loop-entry : goal.invariant-loop-entry
invariant-loop-entry l = l.count + length (held l.qos l.entry-iterator) ≡ length (held l.qos l.fn.entries)
