use Rattle.std.proofs.Common.{◌≡◌}
use Rattle.mq_loop.proofs.event_loop.EventLoop.list_newcomers.Given as goal

abbrev pub invariant-loop : goal.invariant-loop
invariant-loop g l = l.self ≡ l.initial.self
