-- A broker as plain records, and lookups in them.
use Rattle.std.specs.Prelude.{ℕ, Bool, true, false, not, ◌==◌, List, [], ◌∷◌, map, filter, Option, Some, None, is_some, if◌then◌else◌}
use Rattle.std.specs.List.{flat_map, list_any}
use Rattle.std.specs.Str.{bytes_eq}
use Rattle.mq_topic.specs.Rows.{Row, matched}
use Rattle.mq_packet.specs.declared.message.Message.{Message}
use Rattle.mq_end.specs.End.{End, blank_end}
use Rattle.mq_end.specs.Server.{opens}
use Rattle.mq_route.specs.declared.conn.Conn.{Conn}
use Rattle.mq_route.specs.declared.config.HubConfig.{HubConfig}
use Rattle.mq_route.specs.declared.connection_state.ConnectionState.{ConnectionState}
use Rattle.mq_route.specs.declared.connection_state.ConnectionState.TheVariants.{AwaitingConnect, ConnectedAs, Closed}
use Rattle.mq_route.specs.Copies.{is_hidden_name, copy_by}
use Rattle.mq_route.specs.Routed.{same_conn}

-- A session (3.1.2.4): the client identifier, the key, the server end, which has the sender's book,
-- the receiver's book and the last assigned packet identifier, and the time at which the client
-- last disconnected.
pub record HubSession : Type 0 where
  pub client : List ℕ
  pub key : ℕ
  pub end : End
  pub left : ℕ

-- A connection: its name, its state, the bytes of an incomplete packet, the pending output, and the
-- time at which it was opened.
pub record HubConnection : Type 0 where
  pub conn : Conn
  pub stage : ConnectionState
  pub held : List ℕ
  pub waiting : List ℕ
  pub since : ℕ

-- A broker. clock: the time in milliseconds. next_key: the key of the next new session. rows: the
-- subscriptions (3.8.4). retained: the retained messages (3.3.1.3), oldest topic name first.
-- sessions: by ascending key. connections: in the order in which they were opened.
pub record HubState : Type 0 where
  pub config : HubConfig
  pub clock : ℕ
  pub next_key : ℕ
  pub rows : List Row
  pub retained : List Message
  pub sessions : List HubSession
  pub connections : List HubConnection

-- the end of a new session (3.1.2.4)
abbrev pub new_end : HubConfig → End
new_end config = blank_end config.window

-- the end of a key without a session
abbrev pub no_end : End
no_end = blank_end None

-- a new broker
abbrev pub new_hub : HubConfig → HubState
new_hub config = record { config = config; clock = 0; next_key = 0; rows = []; retained = []; sessions = []; connections = [] }

-- ---- connections

abbrev pub is_connection : Conn → HubConnection → Bool
is_connection conn connection = same_conn connection.conn conn

-- the connection is known: it was opened and has not ended
abbrev pub knows : Conn → List HubConnection → Bool
knows conn connections = list_any (is_connection conn) connections

-- the state of a connection; an unknown connection is closed
abbrev pub stage_of : Conn → List HubConnection → ConnectionState
stage_of conn [] = Closed
stage_of conn (connection ∷ rest) = if is_connection conn connection then connection.stage else stage_of conn rest

abbrev pub held_on : Conn → List HubConnection → List ℕ
held_on conn [] = []
held_on conn (connection ∷ rest) = if is_connection conn connection then connection.held else held_on conn rest

abbrev pub waiting_on : Conn → List HubConnection → List ℕ
waiting_on conn [] = []
waiting_on conn (connection ∷ rest) = if is_connection conn connection then connection.waiting else waiting_on conn rest

abbrev pub changed : (HubConnection → HubConnection) → Conn → HubConnection → HubConnection
changed change conn connection = if is_connection conn connection then change connection else connection

-- the connections with one changed
abbrev pub with_connection : (HubConnection → HubConnection) → Conn → List HubConnection → List HubConnection
with_connection change conn connections = map (changed change conn) connections

-- the connections without one
abbrev pub without_connection : Conn → List HubConnection → List HubConnection
without_connection conn connections = filter (λ connection. not (is_connection conn connection)) connections

-- the connection is not closed
abbrev pub is_open : ConnectionState → Bool
is_open AwaitingConnect = true
is_open (ConnectedAs key terms last_activity) = true
is_open Closed = false

-- the key of the connected client
abbrev pub key_on : ConnectionState → Option ℕ
key_on AwaitingConnect = None
key_on (ConnectedAs key terms last_activity) = Some key
key_on Closed = None

-- the session ends with the connection (3.1.2.4)
abbrev pub is_clean : ConnectionState → Bool
is_clean AwaitingConnect = false
is_clean (ConnectedAs key terms last_activity) = terms.clean_session
is_clean Closed = false

abbrev pub is_for : ℕ → ConnectionState → Bool
is_for key AwaitingConnect = false
is_for key (ConnectedAs other terms last_activity) = other == key
is_for key Closed = false

-- the connection of a client
abbrev pub up_on : ℕ → List HubConnection → Option Conn
up_on key [] = None
up_on key (connection ∷ rest) = if is_for key connection.stage then Some connection.conn else up_on key rest

-- the state of the connection on which a client is connected; `Closed` if there is none
abbrev pub stage_for : ℕ → List HubConnection → ConnectionState
stage_for key [] = Closed
stage_for key (connection ∷ rest) = if is_for key connection.stage then connection.stage else stage_for key rest

-- the keep-alive of the connected client in seconds (3.1.2.10)
abbrev pub keep_alive_on : ConnectionState → ℕ
keep_alive_on AwaitingConnect = 0
keep_alive_on (ConnectedAs key terms last_activity) = terms.keep_alive
keep_alive_on Closed = 0

-- ---- sessions

-- the end of a session
abbrev pub end_of : ℕ → List HubSession → End
end_of key [] = no_end
end_of key (session ∷ rest) = if session.key == key then session.end else end_of key rest

abbrev pub ending_in : ℕ → End → HubSession → HubSession
ending_in key end session = if session.key == key then record session { end = end } else session

-- the sessions with one end replaced
abbrev pub with_end : ℕ → End → List HubSession → List HubSession
with_end key end sessions = map (ending_in key end) sessions

-- the session has this key
abbrev pub is_session : Option ℕ → HubSession → Bool
is_session None session = false
is_session (Some key) session = session.key == key

abbrev pub leaving : Option ℕ → ℕ → HubSession → HubSession
leaving key now session = if is_session key session then record session { left = now } else session

-- the sessions, of which one stores this time as that of its client's last disconnect
abbrev pub with_left : Option ℕ → ℕ → List HubSession → List HubSession
with_left key now sessions = map (leaving key now) sessions

abbrev pub without_session : ℕ → List HubSession → List HubSession
without_session key sessions = filter (λ session. not (session.key == key)) sessions

-- the key of a client's session (3.1.3.1)
abbrev pub key_of : List ℕ → List HubSession → Option ℕ
key_of client [] = None
key_of client (session ∷ rest) = if bytes_eq session.client client then Some session.key else key_of client rest

-- the end that takes the packets of a connection; before CONNECT it has no session
abbrev pub end_on : ConnectionState → List HubSession → End
end_on AwaitingConnect sessions = (opens no_end).end
end_on (ConnectedAs key terms last_activity) sessions = end_of key sessions
end_on Closed sessions = no_end

-- ---- copies

abbrev pub for_key : ℕ → List Message → List (ℕ × Message)
for_key key messages = map (λ message. (key, message)) messages

-- the copies of a message: one for each client with a matching subscription, by ascending key
-- (3.3.5), and none for a topic name that begins with `$`
unfoldable pub copies_of : Message → HubState → List (ℕ × Message)
copies_of message hub =
    if is_hidden_name message.topic then [] else
    flat_map (λ found. for_key found.0 (copy_by (is_some (up_on found.0 hub.connections)) message (Some found.1))) (matched message.topic hub.rows)
