use Rattle.mq_cli.proofs.MadeUp.{Written}
use Rattle.mq_cli.proofs.random.write_events.Given as goal

abbrev pub invariant-loop-number : goal.invariant-loop-number
invariant-loop-number g l = Written l.start l.count l.generator l.number (g.W.Write.contents l.initial.output) (g.W.Write.contents l.output)
