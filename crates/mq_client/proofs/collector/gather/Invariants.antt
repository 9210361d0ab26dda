use Rattle.mq_client.proofs.Gathers.{Gathering}
use Rattle.mq_client.proofs.collector.gather.Given as goal

abbrev pub invariant-loop : goal.invariant-loop
invariant-loop g l = Gathering l.initial.peer l.peer (g.W.Write.contents l.initial.output) (g.W.Write.contents l.output) l.count l.left
