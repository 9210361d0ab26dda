use Rattle.std.proofs.Common.{◌≡◌, map, take}
use Rattle.mq_tables.specs.declared.sessions.session.BrokerSession.{BrokerSession}
use Rattle.mq_tables.proofs.sessions.table.clients_of.Given as goal

abbrev pub invariant-loop-boxed : goal.invariant-loop-boxed
invariant-loop-boxed l = l.names.items ≡ map (λ (t : BrokerSession). t.client) (take l.boxed-index l.list)
