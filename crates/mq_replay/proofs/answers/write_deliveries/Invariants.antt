use Rattle.std.proofs.Common.{take, flat_map}
use Rattle.std.specs.Io.KnownBytes.{Appends}
use Rattle.mq_replay.specs.Printing.{delivery_lines}
use Rattle.mq_replay.proofs.answers.write_deliveries.Given as goal

abbrev pub invariant-loop-delivery : goal.invariant-loop-delivery
invariant-loop-delivery g l = Appends (g.W.Write.contents l.initial.output) (g.W.Write.contents l.output) (flat_map delivery_lines (take l.delivery-index l.deliveries))
