use Rattle.std.proofs.Common.{take, flat_map}
use Rattle.std.specs.Io.KnownBytes.{Appends}
use Rattle.mq_replay.specs.Printing.{happening_line}
use Rattle.mq_replay.proofs.answers.write_happenings.Given as goal

abbrev pub invariant-loop-happening : goal.invariant-loop-happening
invariant-loop-happening g l = Appends (g.W.Write.contents l.initial.output) (g.W.Write.contents l.output) (flat_map (happening_line l.side) (take l.happening-index l.happenings))
