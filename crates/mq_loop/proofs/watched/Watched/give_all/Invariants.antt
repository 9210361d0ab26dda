use Rattle.std.proofs.Common.{◌≡◌, true}
use Rattle.mq_loop.specs.Calls.{Collecting}
use Rattle.mq_loop.specs.Inside.Places.{count_in}
use Rattle.mq_loop.specs.Rounds.{connections_in}
use Rattle.mq_loop.proofs.watched.Watched.give_all.Given as goal

abbrev pub invariant-loop : goal.invariant-loop
invariant-loop g l = record {
  connections : connections_in l.self.served.lines ≡ connections_in l.initial.self.served.lines;
  committed : l.self.served.committed ≡ true;
  calls : Collecting l.initial.self.served.calls l.self.served.calls;
  base : l.self.served.base ≡ l.initial.self.served.base;
}

abbrev pub decreases-loop : goal.decreases-loop
decreases-loop g l = count_in l.self.marked
