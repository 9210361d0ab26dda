use Rattle.std.proofs.Common.{◌≡◌, drop}
use Rattle.mq_loop.specs.Inside.Turns.{HeardSo, IsOldestFirst}
use Rattle.mq_loop.proofs.event_loop.EventLoop.round.Given as goal

abbrev pub invariant-loop-turn : goal.invariant-loop-turn
invariant-loop-turn g l = record {
  sorted : IsOldestFirst (drop l.turn-index l.turn-items);
  base : l.self.watched.served.base ≡ l.initial.self.watched.served.base;
  calls : HeardSo l.initial.self.ages (drop l.turn-index l.turn-items) l.initial.self.watched.served.calls l.self.watched.served.calls;
  ages : l.self.ages ≡ l.initial.self.ages;
}
