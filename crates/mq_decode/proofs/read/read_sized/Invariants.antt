use Rattle.std.proofs.Common.{◌+◌, ◌-◌, ◌<◌, length}
use Rattle.std.specs.Io.KnownBytes.{Consumes}
use Rattle.mq_decode.proofs.Streams.{PendingBefore}
use Rattle.mq_decode.proofs.read.read_sized.Given as goal

abbrev pub invariant-loop-found : goal.invariant-loop-found
invariant-loop-found g l = record {
  some : 0 < length l.buffer.items;
  before : PendingBefore l.limits l.buffer.items;
  taken : Consumes (g.R.Read.remaining l.fn.reader) (g.R.Read.remaining l.reader) l.buffer.items;
}

abbrev pub decreases-loop-found : goal.decreases-loop-found
decreases-loop-found g l = 6 + l.limits.most - length l.buffer.items
