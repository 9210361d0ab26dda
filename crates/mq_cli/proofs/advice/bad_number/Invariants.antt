use Rattle.std.proofs.Common.{length}
use Rattle.mq_cli.proofs.advice.bad_number.Given as goal

abbrev pub decreases-loop-rest : goal.decreases-loop-rest
decreases-loop-rest l = length l.rest
