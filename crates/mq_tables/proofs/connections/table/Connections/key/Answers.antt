use Rattle.std.proofs.Common.{◌∙◌, ap}
use Rattle.mq_route.specs.Hub.{key_on}
use Rattle.mq_tables.proofs.FoundConnection.{shut_seen, stage_seen}
use Rattle.mq_tables.proofs.connections.table.Connections.key.Goals as goal

pub returns-in-Some : goal.returns-in-Some
returns-in-Some c = c.key.ensures ∙ ap key_on (stage_seen c.self.invariant c.self.view_is c.args.conn c.in-Some.ensures.value)

pub returns-in-None : goal.returns-in-None
returns-in-None c = ap key_on (shut_seen c.self.invariant c.self.view_is c.args.conn c.in-None.ensures.value)
