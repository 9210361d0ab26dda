use Rattle.std.proofs.Common.{◌≡◌, length}
use Rattle.mq_flow.specs.Held.{messages, pairs_in}
use Rattle.mq_flow.proofs.iter.first_waiting.Given as goal

abbrev pub invariant-loop-slot : goal.invariant-loop-slot
invariant-loop-slot l = messages (pairs_in l.rest) ≡ messages (pairs_in l.fn.slots)

abbrev pub decreases-loop-slot : goal.decreases-loop-slot
decreases-loop-slot l = length l.rest
