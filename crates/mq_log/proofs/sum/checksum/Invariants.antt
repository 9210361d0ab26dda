use Rattle.std.proofs.Common.{◌≡◌, ◌<◌, drop, length}
use Rattle.mq_log.specs.Checksum.{checksum, sum_from}
use Rattle.mq_log.proofs.sum.checksum.Given as goal

abbrev pub invariant-loop-rest : goal.invariant-loop-rest
invariant-loop-rest l = record { low : l.sum < 4294967296; summed : sum_from l.sum l.rest ≡ checksum l.entry }

abbrev pub decreases-loop-rest : goal.decreases-loop-rest
decreases-loop-rest l = length l.rest

abbrev pub invariant-loop-byte : goal.invariant-loop-byte
invariant-loop-byte l = record { low : l.sum < 4294967296; summed : sum_from l.sum (drop l.byte-index l.byte-items) ≡ checksum l.entry }
