use Rattle.std.proofs.Common.{map}
use Rattle.std.specs.List.{AllZip}
use Rattle.mq_loopback.specs.Ordered.{IsOrdered}
use Rattle.mq_loopback.proofs.sort.all_ordered.Given as goal

-- The first lists are sorted.
abbrev pub invariant-loop-messages : goal.invariant-loop-messages
invariant-loop-messages l = AllZip IsOrdered (map (λ v. v.items) l.yielded) (map (λ v. v.items) l.all.items)
