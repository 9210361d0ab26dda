use Rattle.std.proofs.Common.{length}
use Rattle.mq_store.proofs.Lasting.{AreSoFar}
use Rattle.mq_store.proofs.listing.write_entries.Given as goal

abbrev pub invariant-loop-rest : goal.invariant-loop-rest
invariant-loop-rest g l = AreSoFar l.are_readable l.rest l.fn.entries

abbrev pub decreases-loop-rest : goal.decreases-loop-rest
decreases-loop-rest g l = length l.rest
