use Rattle.std.proofs.Common.{◌≡◌}
use Rattle.mq_pubsub.proofs.inbox.check_codes.Given as goal

abbrev pub invariant-loop-index : goal.invariant-loop-index
invariant-loop-index g l =
    (g.P.Printer.shown l.printer ≡ g.P.Printer.shown l.initial.printer)
    × (g.P.Printer.identifiers l.printer ≡ g.P.Printer.identifiers l.initial.printer)
