use Rattle.std.proofs.Common.{◌≡◌}
use Rattle.mq_loop.specs.Inside.Calls.{ReadsOf}
use Rattle.mq_loop.proofs.event_loop.EventLoop.hear.Given as goal

abbrev pub invariant-loop : goal.invariant-loop
invariant-loop g l = record {
  base : l.self.watched.served.base ≡ l.fn.self.watched.served.base;
  calls : ReadsOf l.fn.self.ages l.fn.turn.age l.fn.self.watched.served.calls l.self.watched.served.calls;
  ages : l.self.ages ≡ l.fn.self.ages;
}
