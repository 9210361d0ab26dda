use Rattle.std.proofs.Common.{◌≡◌}
use Rattle.mq_picture.specs.Records.{unsent}
use Rattle.mq_picture.proofs.record.Wire.read.Given as goal

abbrev pub invariant-loop-packet : goal.invariant-loop-packet
invariant-loop-packet l = unsent l.entries.items ≡ unsent l.initial.entries.items
