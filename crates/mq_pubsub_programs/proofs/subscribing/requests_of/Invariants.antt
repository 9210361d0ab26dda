use Rattle.std.proofs.Common.{◌≡◌, map, take}
use Rattle.mq_pubsub_programs.specs.Following.{request_of}
use Rattle.mq_pubsub_programs.proofs.subscribing.requests_of.Given as goal

-- the requests of the filters that were taken
abbrev pub invariant-loop-filter : goal.invariant-loop-filter
invariant-loop-filter l = l.requests.items ≡ map (request_of l.qos) (take l.filter-index l.filters)
