use Rattle.std.proofs.Common.{◌++◌, ◌∙◌, List, map, sym, ap, append-nil}
use Rattle.mq_tables.specs.declared.connections.connection.Connection.{Connection}
use Rattle.mq_tables.proofs.SavedConnections.{each_name}
use Rattle.mq_tables.proofs.connections.table.names_of.Goals as goal

pub returns : goal.returns
returns c =
    let names = c.loop-boxed.names.items in
    sym (append-nil names)
    ∙ ap (λ (cs : List Connection). names ++ map (λ (x : Connection). x.conn) cs) (sym c.in-None.ensures.steps.0)
    ∙ c.loop-boxed.invariant ∙ each_name c.args.by_conn.now.entries
