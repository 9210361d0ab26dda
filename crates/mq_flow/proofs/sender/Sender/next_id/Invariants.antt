use Rattle.mq_flow.proofs.Round.{Passed}
use Rattle.mq_flow.proofs.sender.Sender.next_id.Given as goal

abbrev pub invariant-loop : goal.invariant-loop
invariant-loop l = Passed l.self l.counter l.number
