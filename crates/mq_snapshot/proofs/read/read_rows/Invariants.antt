use Rattle.std.proofs.Common.{◌≡◌, ◌++◌, ◌≤◌, length}
use Rattle.std.specs.List.{flat_map}
use Rattle.mq_route.specs.Snapshot.{eight, saved_row}
use Rattle.mq_snapshot.proofs.read.read_rows.Given as goal

-- The bytes are the number of rows, the rows that were read, and the rest.
abbrev pub invariant-loop : goal.invariant-loop
invariant-loop l = record {
  bytes : l.bytes ≡ eight l.size ++ (flat_map saved_row l.rows.items ++ l.rest);
  count : length l.rows.items ≡ l.counter;
  within : l.counter ≤ l.size;
}
