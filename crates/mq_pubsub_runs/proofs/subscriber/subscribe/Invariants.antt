use Rattle.mq_pubsub_runs.specs.Watching.{first_inbox}
use Rattle.mq_pubsub_runs.proofs.Watchings.{WatchedSoFar}
use Rattle.mq_pubsub_runs.proofs.subscriber.subscribe.Given as goal

abbrev pub invariant-loop : goal.invariant-loop
invariant-loop g l =
    WatchedSoFar l.options l.fn.client (g.K.SessionSaver.kept l.fn.keeper) (first_inbox l.options) (g.P.Printer.shown l.fn.printer)
    l.sitting.client (g.K.SessionSaver.kept l.sitting.keeper) l.inbox (g.P.Printer.shown l.printer)
