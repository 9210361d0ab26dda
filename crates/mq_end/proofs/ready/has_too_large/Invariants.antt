use Rattle.std.proofs.Common.{◌≡◌, drop, nat_lt}
use Rattle.std.specs.List.{list_any}
use Rattle.mq_end.specs.Sizes.{publish_size}
use Rattle.mq_end.proofs.ready.has_too_large.Given as goal

abbrev pub invariant-loop-message : goal.invariant-loop-message
invariant-loop-message l = list_any (λ m. nat_lt l.limit (publish_size m)) (drop l.message-index l.messages) ≡ list_any (λ m. nat_lt l.limit (publish_size m)) l.messages
