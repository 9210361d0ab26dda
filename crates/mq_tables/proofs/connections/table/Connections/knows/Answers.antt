use Rattle.std.proofs.Common.{◌∙◌}
use Rattle.mq_tables.proofs.FoundConnection.{known_seen}
use Rattle.mq_tables.proofs.connections.table.Connections.knows.Goals as goal

pub returns : goal.returns
returns c = c.contains_key.ensures ∙ known_seen c.self.invariant c.self.view_is c.args.conn
