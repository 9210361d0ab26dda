-- The tables of a broker.
use Rattle.std.specs.Prelude.{List}
use Rattle.mq_topic.specs.Rows.{Row}
use Rattle.mq_tables.specs.Connections.{ConnectionList}
use Rattle.mq_tables.specs.Retained.{RetainedTable}
use Rattle.mq_tables.specs.Sessions.{SessionTable}

-- The tables of a broker: the rows of its subscriptions (3.8.4), the retained messages (3.3.1.3),
-- the sessions (3.1.2.4) and the connections (4.2).
pub record HubTables : Type 0 where
  pub rows : List Row
  pub retained : RetainedTable
  pub sessions : SessionTable
  pub connections : ConnectionList
