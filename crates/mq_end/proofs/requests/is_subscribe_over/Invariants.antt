use Rattle.std.proofs.Common.{◌≡◌, ◌+◌, drop}
use Rattle.mq_end.specs.Sizes.{requests_size, subscribe_size}
use Rattle.mq_end.proofs.requests.is_subscribe_over.Given as goal

abbrev pub invariant-loop-request : goal.invariant-loop-request
invariant-loop-request l = l.size + requests_size (drop l.request-index l.requests) ≡ subscribe_size l.requests
