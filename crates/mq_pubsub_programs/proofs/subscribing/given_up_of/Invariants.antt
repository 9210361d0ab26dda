use Rattle.std.proofs.Common.{◌≡◌, take}
use Rattle.mq_pubsub_programs.proofs.subscribing.given_up_of.Given as goal

-- the filters that were taken
abbrev pub invariant-loop-filter : goal.invariant-loop-filter
invariant-loop-filter l = l.given_up.items ≡ take l.filter-index l.filters
