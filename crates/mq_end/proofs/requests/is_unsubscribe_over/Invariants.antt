use Rattle.std.proofs.Common.{◌≡◌, ◌+◌, drop}
use Rattle.mq_end.specs.Sizes.{filters_size, unsubscribe_size}
use Rattle.mq_end.proofs.requests.is_unsubscribe_over.Given as goal

abbrev pub invariant-loop-filter : goal.invariant-loop-filter
invariant-loop-filter l = l.size + filters_size (drop l.filter-index l.filters) ≡ unsubscribe_size l.filters
