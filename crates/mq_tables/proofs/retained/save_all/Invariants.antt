use Rattle.std.proofs.Common.{◌≡◌, ◌++◌}
use Rattle.std.specs.List.{flat_map}
use Rattle.indexmap.specs.IndexMap.{values}
use Rattle.mq_route.specs.Snapshot.{listed, saved_message}
use Rattle.mq_tables.proofs.retained.save_all.Given as goal

-- The bytes and those of the remaining messages are all bytes.
abbrev pub invariant-loop-message : goal.invariant-loop-message
invariant-loop-message l = l.out.items ++ flat_map saved_message l.message-iterator ≡ l.fn.out.items ++ listed saved_message (values l.by_name)
