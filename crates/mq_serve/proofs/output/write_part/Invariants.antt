use Rattle.mq_serve.proofs.Fronts.{FrontWritten}
use Rattle.mq_serve.proofs.output.write_part.Given as goal

abbrev pub invariant-loop : goal.invariant-loop
invariant-loop g l = FrontWritten (g.W.Write.contents l.initial.writer) (g.W.Write.contents l.writer) l.bytes l.done
