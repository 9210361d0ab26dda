use Rattle.std.proofs.Common.{◌≡◌, ◌++◌}
use Rattle.mq_topic.specs.ClientRows.{own_rows}
use Rattle.mq_topic.proofs.client_rows.list_own.Given as goal

-- The list and the rows of the remaining entries are the rows before and those of all entries.
abbrev pub invariant-loop-filter : goal.invariant-loop-filter
invariant-loop-filter l = l.list.items ++ own_rows l.client l.filter-iterator ≡ l.initial.list.items ++ own_rows l.client l.own.entries
