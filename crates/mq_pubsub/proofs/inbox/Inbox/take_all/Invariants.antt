use Rattle.std.proofs.Common.{List, map, take}
use Rattle.mq_packet.specs.declared.message.Message.{Message}
use Rattle.mq_pubsub.specs.Printing.{Shows, identifier_of}
use Rattle.mq_pubsub.specs.Subscribing.{Prints}
use Rattle.mq_pubsub.proofs.inbox.Inbox.take_all.Given as goal

abbrev pub invariant-loop-happening : goal.invariant-loop-happening
invariant-loop-happening g l =
    (messages : List Message)
    × Prints l.choice l.ends_when_granted l.initial.self (take l.happening-index l.happenings) l.self messages
    × Shows (g.P.Printer.shown l.initial.printer) (g.P.Printer.shown l.printer) messages
    × Shows (g.P.Printer.identifiers l.initial.printer) (g.P.Printer.identifiers l.printer) (map (identifier_of l.output) messages)
