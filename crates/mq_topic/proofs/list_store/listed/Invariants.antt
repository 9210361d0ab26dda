use Rattle.std.proofs.Common.{◌≡◌, ◌++◌}
use Rattle.mq_topic.proofs.list_store.listed.Given as goal

-- The list and the remaining rows are all rows.
abbrev pub invariant-rows : goal.invariant-rows
invariant-rows l = l.list.items ++ l.key-iterator ≡ l.rows.entries
