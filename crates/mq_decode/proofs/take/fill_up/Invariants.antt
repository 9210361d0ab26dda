use Rattle.std.proofs.Common.{◌≡◌, ◌-◌, ◌++◌, ◌≤◌, length, take}
use Rattle.mq_decode.specs.Copied.{counted_more}
use Rattle.mq_decode.specs.Grammar.{Pending, Wants}
use Rattle.mq_decode.proofs.take.fill_up.Given as goal

abbrev pub invariant-loop-used : goal.invariant-loop-used
invariant-loop-used l = record {
  within : l.used ≤ length l.piece;
  pending : Pending l.limits l.held.bytes;
  wants : Wants l.limits l.held.bytes l.held.wants;
  bytes : l.held.bytes ≡ l.fn.held.bytes ++ take l.used l.piece;
  counted : l.held.copied ≡ counted_more l.fn.held.copied l.used;
}

abbrev pub decreases-loop-used : goal.decreases-loop-used
decreases-loop-used l = length l.piece - l.used
