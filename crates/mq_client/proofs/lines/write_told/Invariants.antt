use Rattle.std.proofs.Common.{take, flat_map}
use Rattle.std.specs.Io.KnownBytes.{Appends}
use Rattle.mq_client.specs.Printed.{told_line}
use Rattle.mq_client.proofs.lines.write_told.Given as goal

abbrev pub invariant-loop-happening : goal.invariant-loop-happening
invariant-loop-happening g l = Appends (g.W.Write.contents l.initial.output) (g.W.Write.contents l.output) (flat_map told_line (take l.happening-index l.happenings))
