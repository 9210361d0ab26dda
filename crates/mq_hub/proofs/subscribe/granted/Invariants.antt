use Rattle.std.proofs.Common.{◌≡◌, ◌++◌, drop}
use Rattle.mq_route.specs.Arrives.{granted}
use Rattle.mq_hub.proofs.subscribe.granted.Given as goal

abbrev pub invariant-loop-request : goal.invariant-loop-request
invariant-loop-request l = l.codes.items ++ granted (drop l.request-index l.requests) ≡ granted l.requests
