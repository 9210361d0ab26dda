use Rattle.std.proofs.Common.{◌≡◌, not, drop}
use Rattle.std.specs.List.{list_any}
use Rattle.mq_end.specs.Both.{has_identifier}
use Rattle.mq_end.proofs.ready.has_at_most_once.Given as goal

abbrev pub invariant-loop-message : goal.invariant-loop-message
invariant-loop-message l = list_any (λ m. not (has_identifier m.qos)) (drop l.message-index l.messages) ≡ list_any (λ m. not (has_identifier m.qos)) l.messages
