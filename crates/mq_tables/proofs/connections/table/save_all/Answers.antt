use Rattle.std.proofs.Common.{◌++◌, ◌∙◌, ℕ, List, sym, ap, append-nil}
use Rattle.std.specs.List.{flat_map}
use Rattle.mq_tables.specs.declared.connections.connection.Connection.{Connection}
use Rattle.mq_tables.proofs.SavedConnections.{listed_by, saved_by}
use Rattle.mq_tables.proofs.connections.table.save_all.Goals as goal

pub returns : goal.returns
returns c =
    let out = c.loop-boxed.out.items in
    sym (append-nil out)
    ∙ ap (λ (cs : List Connection). out ++ flat_map saved_by cs) (sym c.in-None.ensures.steps.0)
    ∙ c.loop-boxed.invariant
    ∙ ap (λ (b : List ℕ). c.args.out.now.items ++ b) (listed_by c.args.by_conn.now.entries)
