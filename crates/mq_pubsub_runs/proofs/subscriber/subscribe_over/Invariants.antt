use Rattle.mq_pubsub_runs.specs.Watching.{Watched}
use Rattle.mq_pubsub_runs.proofs.subscriber.subscribe_over.Given as goal

abbrev pub invariant-loop : goal.invariant-loop
invariant-loop g l =
    Watched l.options l.fn.peer l.fn.inbox (g.P.Printer.shown l.fn.printer) l.peer l.inbox (g.P.Printer.shown l.printer)
