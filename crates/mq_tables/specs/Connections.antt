-- The table of connections (4.2).
use Rattle.std.specs.Prelude.{ℕ, List, map, ◌≡◌, Some, None, Option, false, ◌==◌, Bool, [], ◌∷◌, if◌then◌else◌, is_some}
use Rattle.std.specs.List.{AllByRecursion, IsDistinct, count_by}
use Rattle.std.specs.Map.{keys_of}
use Rattle.mq_decode.specs.Grammar.{Pending}
use Rattle.mq_decode.specs.Limits.{Bounds}
use Rattle.mq_decode.specs.State.{State}
use Rattle.mq_route.specs.Hub.{HubConnection, key_on}
use Rattle.mq_route.specs.declared.conn.Conn.{Conn}
use Rattle.mq_route.specs.Routed.{same_conn}
use Rattle.mq_route.specs.declared.connection_state.ConnectionState.TheVariants.{Closed, ConnectedAs}
use Rattle.mq_route.specs.Arrives.{touched}
use Rattle.mq_route.specs.declared.connection_state.ConnectionTerms.{ConnectionTerms}
use Rattle.mq_tables.specs.declared.connections.table.ConnectionLimits.{ConnectionLimits}
use Rattle.mq_tables.specs.declared.connections.connection.Connection.{Connection}
use Rattle.mq_tables.specs.Alarms.{AlarmTable, IsAwaited}

-- The connections in the order in which they were opened, and their limits. Then: for how many more
-- there is room, how many more may become connected, and how many alarms there are.
pub record ConnectionList : Type 0 where
  pub connections : List HubConnection
  pub limits : ConnectionLimits
  pub room : ℕ
  pub up_room : ℕ
  pub alarms : ℕ

-- a connection as the broker's definition sees it
abbrev pub connection_of : Connection → HubConnection
connection_of connection = record { conn = connection.conn; stage = connection.stage; held = connection.decoder.held; waiting = connection.waiting; since = connection.since }

abbrev pub connections_of : List (Conn × Connection) → List HubConnection
connections_of entries = map (λ entry. connection_of entry.1) entries

-- a decoder has these limits, met no error, and holds no whole packet
abbrev pub IsDecoding : Bounds → State → Type 0
IsDecoding limits decoder = (decoder.limit ≡ limits) × (decoder.failed ≡ None) × Pending limits decoder.held

-- so does the decoder of a connection
abbrev pub IsReading : Bounds → Connection → Type 0
IsReading limits connection = IsDecoding limits connection.decoder

-- How connections are served: the limits of their packets, the time within which each must send
-- CONNECT, and the alarms.
pub record Service : Type 0 where
  pub bounds : Bounds
  pub within : Option ℕ
  pub alarms : AlarmTable

abbrev pub service : ConnectionLimits → AlarmTable → Service
service limits alarms = record { bounds = limits.packets; within = limits.connect_within; alarms = alarms }

-- a connection is served in this way
abbrev pub IsServedBy : Service → Connection → Type 0
IsServedBy by connection = IsReading by.bounds connection × IsAwaited by.within by.alarms connection.conn connection.since connection.stage

-- and is stored under its name
abbrev pub IsServed : Service → Conn × Connection → Type 0
IsServed by entry = (entry.0 ≡ entry.1.conn) × IsServedBy by entry.1

-- each connection, with the key of the session for which it is connected
abbrev pub ups_of : List (Conn × Connection) → List (Conn × Option ℕ)
ups_of entries = map (λ entry. (entry.1.conn, key_on entry.1.stage)) entries

abbrev pub has_key : ℕ → Option ℕ → Bool
has_key key None = false
has_key key (Some other) = other == key

-- the first connection that is connected for a key
abbrev pub up_in : ℕ → List (Conn × Option ℕ) → Option Conn
up_in key [] = None
up_in key (first ∷ rest) = if has_key key first.1 then Some first.0 else up_in key rest

-- no two are connected for one key
abbrev pub AreUpOnce : List (Conn × Option ℕ) → Type 0
AreUpOnce [] = Unit {0}
AreUpOnce (first ∷ rest) = ((key : ℕ) → first.1 ≡ Some key → up_in key rest ≡ None) × AreUpOnce rest

-- The invariant of the table: each connection is stored under its name, once. No two are connected
-- for one client, `find` returns that connection, and `count` is the number of those that are
-- connected.
pub record AreConnections (by : Service) (entries : List (Conn × Connection)) (find : ℕ → Option Conn) (count : ℕ) : Type 0 where
  pub served : AllByRecursion (IsServed by) entries
  pub distinct : IsDistinct same_conn (keys_of entries)
  pub singly : AreUpOnce (ups_of entries)
  pub found : (key : ℕ) → find key ≡ up_in key (ups_of entries)
  pub counted : count ≡ count_by (λ pair. is_some pair.1) (ups_of entries)

-- a closed connection with this pending output
abbrev pub left_with : List ℕ → HubConnection → HubConnection
left_with bytes connection = record connection { stage = Closed; held = []; waiting = bytes }

-- a connection that holds these bytes of an incomplete packet
abbrev pub holds : List ℕ → HubConnection → HubConnection
holds bytes connection = record connection { held = bytes }

-- a connection whose last packet arrived at this time
abbrev pub touched_at : ℕ → HubConnection → HubConnection
touched_at now connection = record connection { stage = touched now connection.stage }

-- a connection whose client is connected for the session of a key
abbrev pub connected_for : ℕ → ConnectionTerms → ℕ → HubConnection → HubConnection
connected_for key terms last_activity connection = record connection { stage = ConnectedAs key terms last_activity }
