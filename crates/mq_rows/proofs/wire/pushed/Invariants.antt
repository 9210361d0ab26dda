use Rattle.std.proofs.Common.{◌<◌, length}
use Rattle.mq_wire.specs.Steps.{Continue}
use Rattle.mq_rows.proofs.wire.pushed.Given as goal

abbrev pub invariant-loop-i : goal.invariant-loop-i
invariant-loop-i l = Continue l.reader.bytes × (length l.reader.bytes < 4)
