use Rattle.mq_pubsub_runs.specs.Discarding.{Hears}
use Rattle.mq_pubsub_runs.proofs.visit.await_connection.Given as goal

abbrev pub invariant-loop : goal.invariant-loop
invariant-loop g l = Hears l.fn.peer l.peer
