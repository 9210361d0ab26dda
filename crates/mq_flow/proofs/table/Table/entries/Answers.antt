use Rattle.std.specs.Map.Iter.{deref}
use Rattle.mq_flow.proofs.Tables.{shown_in_order}
use Rattle.mq_flow.proofs.table.Table.entries.Goals as goal

pub returns-clause-runs : goal.returns-clause-runs
returns-clause-runs c = shown_in_order deref
