-- A broker's tables as the broker's definition sees them.
use Rattle.std.specs.Prelude.{ℕ, List, map}
use Rattle.mq_route.specs.declared.connection_state.ConnectionState.{ConnectionState}
use Rattle.mq_route.specs.declared.connection_state.ConnectionState.TheVariants.{AwaitingConnect, ConnectedAs, Closed}
use Rattle.mq_route.specs.Hub.{HubConnection, HubState}
use Rattle.mq_route.specs.declared.config.HubConfig.{HubConfig}
use Rattle.mq_tables.specs.declared.sessions.session.BrokerSession.{BrokerSession}
use Rattle.mq_tables.specs.Sessions.{sessions_of}
use Rattle.mq_tables.specs.Tables.{HubTables}
use Rattle.mq_tables.specs.Output.{output_of}

-- the pending output of a connection: that of its session's end while it is connected, else its own
abbrev pub waiting_by : ConnectionState → List BrokerSession → List ℕ → List ℕ
waiting_by AwaitingConnect sessions own = own
waiting_by (ConnectedAs key terms last_activity) sessions own = output_of key sessions
waiting_by Closed sessions own = own

abbrev pub seen : List BrokerSession → HubConnection → HubConnection
seen sessions connection = record connection { waiting = waiting_by connection.stage sessions connection.waiting }

abbrev pub all_seen : List BrokerSession → List HubConnection → List HubConnection
all_seen sessions connections = map (seen sessions) connections

-- the broker with these tables
abbrev pub hub_of : HubConfig → ℕ → ℕ → HubTables → HubState
hub_of config clock next_key tables = record {
  config = config;
  clock = clock;
  next_key = next_key;
  rows = tables.rows;
  retained = tables.retained.messages;
  sessions = sessions_of tables.sessions.list;
  connections = all_seen tables.sessions.list tables.connections.connections;
}
