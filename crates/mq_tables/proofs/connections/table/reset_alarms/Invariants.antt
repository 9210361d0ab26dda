use Rattle.std.proofs.Common.{◌+◌, ◌≤◌, length}
use Rattle.std.specs.List.{AllByRecursion}
use Rattle.indexmap.specs.IndexMap.{values}
use Rattle.mq_tables.specs.declared.connections.connection.Connection.{Connection}
use Rattle.mq_tables.specs.Alarms.{AlarmTable, IsAwaited}
use Rattle.mq_tables.specs.Inside.Alarms.{RingsWith}
use Rattle.mq_tables.proofs.connections.table.reset_alarms.Given as goal

-- if those to come are awaited, all are
abbrev pub invariant-loop-boxed : goal.invariant-loop-boxed
invariant-loop-boxed l = record {
  awaited : (a : AlarmTable) → RingsWith l.alarms a → AllByRecursion (λ (c : Connection). IsAwaited l.within a c.conn c.since c.stage) l.boxed-iterator
      → AllByRecursion (λ (c : Connection). IsAwaited l.within a c.conn c.since c.stage) (values l.by_conn);
  few : length l.alarms.alarms + length l.boxed-iterator ≤ length (values l.by_conn);
}
