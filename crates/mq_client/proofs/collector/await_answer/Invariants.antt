use Rattle.std.proofs.Common.{[], Ok}
use Rattle.mq_client.specs.Collecting.{Keeps, Unacknowledged}
use Rattle.mq_client.proofs.collector.await_answer.Given as goal

abbrev pub invariant-loop : goal.invariant-loop
invariant-loop g l = Keeps l.initial.peer l.peer [] l.initial.kept.items l.kept.items (Ok tt) × Unacknowledged l.initial.peer l.peer
