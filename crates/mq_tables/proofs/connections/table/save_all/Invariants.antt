use Rattle.std.proofs.Common.{◌≡◌, ◌++◌}
use Rattle.std.specs.List.{flat_map}
use Rattle.indexmap.specs.IndexMap.{values}
use Rattle.mq_route.specs.Snapshot.{listed}
use Rattle.mq_tables.proofs.SavedConnections.{saved_by}
use Rattle.mq_tables.proofs.connections.table.save_all.Given as goal

-- The bytes and those of the remaining connections are all bytes.
abbrev pub invariant-loop-boxed : goal.invariant-loop-boxed
invariant-loop-boxed l = l.out.items ++ flat_map saved_by l.boxed-iterator ≡ l.fn.out.items ++ listed saved_by (values l.by_conn)
