use Rattle.std.proofs.Common.{take, flat_map}
use Rattle.std.specs.Io.KnownBytes.{Appends}
use Rattle.mq_serve.specs.Printed.{session_line}
use Rattle.mq_serve.proofs.lines.write_sessions.Given as goal

abbrev pub invariant-loop-name : goal.invariant-loop-name
invariant-loop-name g l = Appends (g.W.Write.contents l.initial.output) (g.W.Write.contents l.output) (flat_map session_line (take l.name-index l.names))
