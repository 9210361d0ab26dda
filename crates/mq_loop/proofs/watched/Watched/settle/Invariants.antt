use Rattle.std.proofs.Common.{◌≡◌, true}
use Rattle.mq_loop.specs.Inside.Calls.{Quietly}
use Rattle.mq_loop.specs.Rounds.{IsEmpty, connections_in}
use Rattle.mq_loop.proofs.watched.Watched.settle.Given as goal

abbrev pub invariant-loop-self : goal.invariant-loop-self
invariant-loop-self g l = record {
  marked : IsEmpty l.self.marked;
  committed : l.self.served.committed ≡ true;
  calls : Quietly l.fn.self.served.calls l.self.served.calls;
  base : l.self.served.base ≡ l.fn.self.served.base;
}

abbrev pub decreases-loop-self : goal.decreases-loop-self
decreases-loop-self g l = connections_in l.self.served.lines
