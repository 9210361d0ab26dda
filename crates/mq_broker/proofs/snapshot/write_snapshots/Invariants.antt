use Rattle.std.proofs.Common.{take, flat_map}
use Rattle.std.specs.Io.KnownBytes.{Appends}
use Rattle.mq_broker.specs.Inside.Snapshots.{snapshot_line}
use Rattle.mq_broker.proofs.snapshot.write_snapshots.Given as goal

abbrev pub invariant-loop-note : goal.invariant-loop-note
invariant-loop-note g l = Appends (g.W.Write.contents l.initial.output) (g.W.Write.contents l.output) (flat_map snapshot_line (take l.note-index l.notes))
