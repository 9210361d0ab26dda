-- The invariant of a broker.
use Rattle.std.specs.Prelude.{◌≡◌, ℕ, true, false, List, [], ◌∷◌, None, is_some, if◌then◌else◌, ◌≤◌, Option, Some, ◌<◌, ◌^◌, IfSome}
use Rattle.std.specs.List.{AllByRecursion}
use Rattle.mq_packet.specs.declared.message.Message.{Message}
use Rattle.mq_packet.specs.declared.connect.Will.{Will}
use Rattle.mq_end.specs.declared.state.State.TheVariants.{Disconnected, Connected}
use Rattle.mq_end.specs.Sizes.{publish_size}
use Rattle.mq_route.specs.declared.config.HubConfig.{HubConfig}
use Rattle.mq_route.specs.Hub.{HubConnection, is_for, knows, up_on, is_clean, stage_for, keep_alive_on}
use Rattle.mq_route.specs.Copies.{will_message}
use Rattle.mq_route.specs.declared.connection_state.ConnectionState.{ConnectionState}
use Rattle.mq_route.specs.declared.connection_state.ConnectionState.TheVariants.{AwaitingConnect, ConnectedAs, Closed}
use Rattle.mq_tables.specs.declared.connections.table.ConnectionLimits.{ConnectionLimits}
use Rattle.mq_tables.specs.declared.sessions.session.BrokerSession.{BrokerSession}
use Rattle.mq_tables.specs.Sessions.{session_at, AreAscending, AreBelow}
use Rattle.mq_tables.specs.Tables.{HubTables}

-- the limits of each connection
abbrev pub limits_of : HubConfig → ConnectionLimits
limits_of config = record { packets = config.limits; connect_within = config.connect_within }

-- names are distinct, and each client is connected on at most one connection
abbrev pub AreApart : List HubConnection → Type 0
AreApart [] = Unit {0}
AreApart (connection ∷ rest) = (knows connection.conn rest ≡ false) × ((key : ℕ) → is_for key connection.stage ≡ true → up_on key rest ≡ None) × AreApart rest

-- A session fits the connections: its end has the configured limits and is known, and waits for no
-- SUBACK or UNSUBACK. It is connected if and only if its client is connected, with the clean
-- session flag and the keep-alive of that connection. Otherwise it has no pending output.
pub record SessionMatchesConnection (config : HubConfig) (connections : List HubConnection) (session : BrokerSession) : Type 0 where
  pub capacity : session.end.capacity ≡ config.capacity
  pub limit : session.end.limit ≡ config.limits
  pub window : session.end.end.window ≡ config.window
  pub known : session.end.end.known ≡ true
  pub state : session.end.end.state ≡ (if is_some (up_on session.key connections) then Connected else Disconnected)
  pub clean : session.end.end.clean ≡ is_clean (stage_for session.key connections)
  pub keep_alive : session.end.end.keep_alive ≡ keep_alive_on (stage_for session.key connections)
  pub claims : session.end.end.book.claimed ≡ []
  pub away : up_on session.key connections ≡ None → session.end.output ≡ []

-- the session of this key exists
abbrev pub HasSession : List BrokerSession → ℕ → Type 0
HasSession sessions key = is_some (session_at key sessions) ≡ true

-- a message is within the size limit, as a PUBLISH (2.2.3)
abbrev pub IsWithin : ℕ → Message → Type 0
IsWithin most message = publish_size message ≤ most

-- the message of a will is within the size limit
abbrev pub IsWillWithin : ℕ → Option Will → Type 0
IsWillWithin most None = Unit {0}
IsWillWithin most (Some will) = IsWithin most (will_message will)

-- a connected connection has a session, and its will is within the limit
abbrev pub ConnectionHasSession : ℕ → List BrokerSession → ConnectionState → Type 0
ConnectionHasSession most sessions AwaitingConnect = Unit {0}
ConnectionHasSession most sessions (ConnectedAs key terms last_activity) = HasSession sessions key × IsWillWithin most terms.will
ConnectionHasSession most sessions Closed = Unit {0}

-- before its CONNECT a connection has no pending output
abbrev pub IsQuiet : ConnectionState → List ℕ → Type 0
IsQuiet AwaitingConnect waiting = waiting ≡ []
IsQuiet (ConnectedAs key terms last_activity) waiting = Unit {0}
IsQuiet Closed waiting = Unit {0}

-- The invariant of a broker.
pub record HubInvariant (config : HubConfig) (next_key : ℕ) (tables : HubTables) : Type 0 where
  -- identifiers can be given, and a receive window is not empty
  pub capacity : 0 < config.capacity
  pub window : IfSome config.window (λ places. 0 < places)
  -- the limits of connections are the configured ones
  pub limits : tables.connections.limits ≡ limits_of config
  -- names are distinct, and each client is connected at most once
  pub apart : AreApart tables.connections.connections
  -- there is no pending output before a CONNECT
  pub quiet : AllByRecursion (λ connection. IsQuiet connection.stage connection.waiting) tables.connections.connections
  -- each connected connection has a session
  pub backed : AllByRecursion (λ connection. ConnectionHasSession config.limits.most tables.sessions.list connection.stage) tables.connections.connections
  -- each session fits the connections
  pub fitting : AllByRecursion (SessionMatchesConnection config tables.connections.connections) tables.sessions.list
  -- keys ascend
  pub ascending : AreAscending tables.sessions.list
  -- the next key is above all keys in use, and keys fit their type
  pub below : AreBelow next_key tables.sessions.list
  pub next : next_key ≤ 2 ^ 32
  -- each subscription belongs to a session
  pub owned : AllByRecursion (λ row. HasSession tables.sessions.list row.0.0) tables.rows
  -- retained messages are within the size limit
  pub retained : AllByRecursion (IsWithin config.limits.most) tables.retained.messages
