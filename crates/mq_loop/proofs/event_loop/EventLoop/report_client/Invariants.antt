use Rattle.std.proofs.Common.{◌≡◌}
use Rattle.mq_loop.proofs.event_loop.EventLoop.report_client.Given as goal

abbrev pub invariant-loop-act : goal.invariant-loop-act
invariant-loop-act g l = record {
  watched : l.self-inside.watched ≡ l.initial.self-inside.watched;
  failure : l.self-inside.failure ≡ l.initial.self-inside.failure;
  ages : l.self-inside.ages ≡ l.initial.self-inside.ages;
  opened : l.self-inside.opened ≡ l.initial.self-inside.opened;
  observer : l.self-inside.observer ≡ l.initial.self-inside.observer;
}
