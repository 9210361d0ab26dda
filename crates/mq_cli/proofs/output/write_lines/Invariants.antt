use Rattle.std.proofs.Common.{take, flat_map}
use Rattle.std.specs.Io.KnownBytes.{Appends}
use Rattle.mq_cli.specs.Printed.{packet_line}
use Rattle.mq_cli.proofs.output.write_lines.Given as goal

abbrev pub invariant-loop-packet : goal.invariant-loop-packet
invariant-loop-packet g l = Appends (g.W.Write.contents l.initial.output) (g.W.Write.contents l.output) (flat_map packet_line (take l.packet-index l.packets))
