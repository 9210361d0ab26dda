use Rattle.mq_loopback.specs.Clients.{Receives}
use Rattle.mq_loopback.proofs.client_run.gather.Given as goal

abbrev pub invariant-loop : goal.invariant-loop
invariant-loop g l = Receives l.initial.peer l.peer l.initial.messages.items l.messages.items
