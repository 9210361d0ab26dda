use Rattle.std.proofs.Common.{◌-◌, length, drop}
use Rattle.mq_decode.specs.Gives.{BeginsWith}
use Rattle.mq_decode.proofs.Streams.{Taken}
use Rattle.mq_decode.proofs.take.take_packets.Given as goal

abbrev pub invariant-loop-packet : goal.invariant-loop-packet
invariant-loop-packet l = Taken l.limits l.bytes l.taken l.fn.out.items l.out.items × BeginsWith (drop l.taken l.bytes) l.copy

abbrev pub decreases-loop-packet : goal.decreases-loop-packet
decreases-loop-packet l = length l.bytes - l.taken
