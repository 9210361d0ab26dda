use Rattle.std.proofs.Common.{◌≡◌, ◌++◌, map}
use Rattle.indexmap.specs.IndexMap.{values}
use Rattle.mq_tables.specs.declared.connections.connection.Connection.{Connection}
use Rattle.mq_tables.proofs.connections.table.names_of.Given as goal

-- The names and those of the remaining connections are all names.
abbrev pub invariant-loop-boxed : goal.invariant-loop-boxed
invariant-loop-boxed l = l.names.items ++ map (λ (c : Connection). c.conn) l.boxed-iterator ≡ map (λ (c : Connection). c.conn) (values l.by_conn)
