use Rattle.std.proofs.Common.{◌≡◌, ◌++◌}
use Rattle.mq_topic.specs.ClientRows.{rows_of}
use Rattle.mq_topic.proofs.client_rows.ClientRows.list.Given as goal

-- The list and the rows of the remaining clients are all rows.
abbrev pub invariant-loop-client : goal.invariant-loop-client
invariant-loop-client l = l.list.items ++ rows_of l.client-iterator ≡ l.self
