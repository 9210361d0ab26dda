use Rattle.std.proofs.Common.{◌≡◌, ◌++◌, length, take}
use Rattle.std.specs.List.{flat_map}
use Rattle.mq_route.specs.Snapshot.{eight, saved_row}
use Rattle.mq_snapshot.proofs.write.put_rows.Given as goal

-- The number of subscriptions was appended, and those before the index.
abbrev pub invariant-loop-row : goal.invariant-loop-row
invariant-loop-row l = l.out.items ≡ (l.fn.out.items ++ eight (length l.rows)) ++ flat_map saved_row (take l.row-index l.rows)
