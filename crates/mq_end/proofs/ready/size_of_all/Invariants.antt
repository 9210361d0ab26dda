use Rattle.std.proofs.Common.{◌≡◌, ◌+◌, drop}
use Rattle.mq_end.specs.Ready.{publishes_size}
use Rattle.mq_end.proofs.ready.size_of_all.Given as goal

abbrev pub invariant-loop-message : goal.invariant-loop-message
invariant-loop-message l = l.size + publishes_size (drop l.message-index l.messages) ≡ publishes_size l.messages
