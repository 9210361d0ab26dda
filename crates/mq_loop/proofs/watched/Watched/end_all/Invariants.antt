use Rattle.std.proofs.Common.{◌≡◌, ◌<◌, true, false}
use Rattle.mq_loop.specs.Inside.Calls.{Quietly}
use Rattle.mq_loop.specs.Rounds.{connections_in}
use Rattle.mq_loop.specs.Inside.Rounds.{ends_left}
use Rattle.mq_loop.proofs.watched.Watched.end_all.Given as goal

abbrev pub invariant-loop-is_ended : goal.invariant-loop-is_ended
invariant-loop-is_ended g l = record {
  calls : Quietly l.initial.self.served.calls l.self.served.calls;
  base : l.self.served.base ≡ l.initial.self.served.base;
  some : l.has_ended ≡ true → connections_in l.self.served.lines < connections_in l.initial.self.served.lines;
  none : l.has_ended ≡ false → l.self.served ≡ l.initial.self.served;
  marked : l.has_ended ≡ false → l.self.marked ≡ l.initial.self.marked;
}

abbrev pub decreases-loop-is_ended : goal.decreases-loop-is_ended
decreases-loop-is_ended g l = ends_left l.self
