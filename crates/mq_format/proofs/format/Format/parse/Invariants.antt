use Rattle.std.proofs.Common.{length}
use Rattle.mq_format.specs.Reading.{Reads}
use Rattle.mq_format.proofs.format.Format.parse.Given as goal

abbrev pub invariant-loop-rest : goal.invariant-loop-rest
invariant-loop-rest l = Reads l.pieces.items l.text l.rest

abbrev pub decreases-loop-rest : goal.decreases-loop-rest
decreases-loop-rest l = length l.rest
