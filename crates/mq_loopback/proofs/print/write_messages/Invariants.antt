use Rattle.std.proofs.Common.{take, flat_map}
use Rattle.std.specs.Io.KnownBytes.{Appends}
use Rattle.mq_loopback.specs.Printed.{message_line}
use Rattle.mq_loopback.proofs.print.write_messages.Given as goal

abbrev pub invariant-loop-message : goal.invariant-loop-message
invariant-loop-message g l = Appends (g.W.Write.contents l.initial.output) (g.W.Write.contents l.output) (flat_map (message_line l.name) (take l.message-index l.messages))
