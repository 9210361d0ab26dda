use Rattle.std.proofs.Common.{◌+◌, ◌-◌, ◌≤◌, length, drop}
use Rattle.mq_end.proofs.Walking.{Walked}
use Rattle.mq_end.proofs.endpoint.Endpoint.take_bytes.Given as goal

abbrev pub invariant-loop-size : goal.invariant-loop-size
invariant-loop-size l = record {
  within : l.used ≤ length l.piece;
  walked : Walked l.role l.piece l.fn.self l.self l.fn.told l.told l.came (drop l.used l.piece);
}

abbrev pub decreases-loop-size : goal.decreases-loop-size
decreases-loop-size l = length l.self.held + (length l.piece - l.used)
