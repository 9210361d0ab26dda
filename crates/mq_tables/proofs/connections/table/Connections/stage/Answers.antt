use Rattle.std.proofs.Common.{◌∙◌, is_some, sym, ap}
use Rattle.mq_tables.specs.declared.connections.connection.Connection.{Connection}
use Rattle.mq_tables.proofs.FoundConnection.{known_seen, lacks_seen, stage_seen}
use Rattle.mq_tables.proofs.connections.table.Connections.stage.Goals as goal

pub returns-in-Some-clause-known : goal.returns-in-Some-clause-known
returns-in-Some-clause-known c = ap is_some c.in-Some.ensures.value ∙ known_seen c.self.invariant c.self.view_is c.args.conn

pub returns-in-Some-clause-stage : goal.returns-in-Some-clause-stage
returns-in-Some-clause-stage c = ap (λ (x : Connection). x.stage) c.connection.ensures ∙ stage_seen c.self.invariant c.self.view_is c.args.conn c.in-Some.ensures.value

pub returns-in-None-clause-known : goal.returns-in-None-clause-known
returns-in-None-clause-known c = sym (lacks_seen c.self.invariant c.self.view_is c.args.conn c.in-None.ensures.value)
