use Rattle.std.proofs.Common.{◌≡◌, ◌++◌, drop}
use Rattle.mq_route.specs.Hub.{for_key}
use Rattle.mq_hub.specs.Inside.Placement.{placed_acts}
use Rattle.mq_hub.proofs.publish.settle.placed_for.Given as goal

abbrev pub invariant-loop-message : goal.invariant-loop-message
invariant-loop-message l = l.acts.items ++ placed_acts (for_key l.key (drop l.message-index l.messages)) ≡ placed_acts (for_key l.key l.messages)
