use Rattle.std.proofs.Common.{◌≡◌, ◌≤◌, ◌+◌, drop, length, filter}
use Rattle.mq_end.specs.Both.{has_identifier}
use Rattle.mq_end.proofs.ready.count_identified.Given as goal

abbrev pub invariant-loop-message : goal.invariant-loop-message
invariant-loop-message l = record {
  rest : l.count + length (filter (λ m. has_identifier m.qos) (drop l.message-index l.messages)) ≡ length (filter (λ m. has_identifier m.qos) l.messages);
  place : l.count ≤ l.message-index;
}
