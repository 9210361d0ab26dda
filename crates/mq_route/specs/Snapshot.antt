-- The snapshot of a broker: its stored state and its connections as bytes (3.1.2.4, 4.1). It has
-- neither the configuration nor the pending output.
use Rattle.std.specs.Prelude.{◌≡◌, ℕ, ◌/◌, ◌%◌, true, is_some, if◌then◌else◌, Option, Some, None, List, [], ◌∷◌, ◌++◌, length, map}
use Rattle.std.specs.FinSet as set
use Rattle.std.specs.List.{flat_map, AllByRecursion}
use Rattle.mq_wire.specs.Number.{number}
use Rattle.mq_wire.specs.Text.{counted}
use Rattle.mq_topic.specs.Qos.{qos_number}
use Rattle.mq_topic.specs.Rows.{Row}
use Rattle.mq_packet.specs.declared.connect.Will.{Will}
use Rattle.mq_packet.specs.declared.message.Message.{Message}
use Rattle.mq_packet.specs.Encoding.{bit}
use Rattle.mq_packet.specs.Identifier.{IsIdentifier}
use Rattle.mq_flow.specs.Saved.{count, saved_entry, saved_ids, saved_payload, saved_receiver}
use Rattle.mq_end.specs.declared.state.State.TheVariants.{Connected, Disconnected}
use Rattle.mq_end.specs.End.{End, resumed}
use Rattle.mq_route.specs.declared.config.HubConfig.{HubConfig}
use Rattle.mq_route.specs.declared.connection_state.ConnectionState.{ConnectionState}
use Rattle.mq_route.specs.declared.connection_state.ConnectionState.TheVariants.{AwaitingConnect, ConnectedAs, Closed}
use Rattle.mq_route.specs.Copies.{will_message}
use Rattle.mq_route.specs.Hub.{HubConnection, HubSession, HubState, is_clean, keep_alive_on, key_on, stage_for}

-- ---- stored state

-- `MQB`, and the version
abbrev pub signature : List ℕ
signature = 0x4d ∷ 0x51 ∷ 0x42 ∷ 1 ∷ []

-- a number of eight bytes, the high byte first
unfoldable pub eight : ℕ → List ℕ
eight value = count (value / 4294967296) ++ count (value % 4294967296)

-- the number of items, followed by the items
abbrev pub listed : {A : Type 0} → (A → List ℕ) → List A → List ℕ
listed saved items = eight (length items) ++ flat_map saved items

-- a subscription (3.8.4): key, topic filter, QoS
unfoldable pub saved_row : Row → List ℕ
saved_row row = count row.0.0 ++ (counted row.0.1 ++ qos_number row.1 ∷ [])

-- a retained message (3.3.1.3): QoS, RETAIN, topic name, payload
unfoldable pub saved_message : Message → List ℕ
saved_message message = qos_number message.qos ∷ bit message.retain ∷ (counted message.topic ++ saved_payload message.payload)

-- The session of an end: the identifier assigned last (2.3.1), the messages that it sends and that
-- are not acknowledged, and the identifiers that are released and received (4.3).
unfoldable pub saved_end : End → List ℕ
saved_end end = number end.last ++ (number (length end.book.entries) ++ (flat_map saved_entry end.book.entries ++ (saved_ids end.book.released ++ saved_receiver end.received)))

-- A session (3.1.2.4): key, time of the last disconnect, client identifier, and the session of its
-- end after the number of its bytes.
unfoldable pub saved_session : HubSession → List ℕ
saved_session session = count session.key ++ (eight session.left ++ (counted session.client ++ (eight (length (saved_end session.end)) ++ saved_end session.end)))

-- ---- connections

-- a will (3.1.2.5): 0 for none, or 1 and its message
unfoldable pub saved_will : Option Will → List ℕ
saved_will None = 0 ∷ []
saved_will (Some will) = 1 ∷ saved_message (will_message will)

-- The state of a connection: 0 before CONNECT (3.1), 1 if its client is connected, 2 if it is
-- closed. A connected client has its key, the time of its last packet, its clean session flag
-- (3.1.2.4), its keep-alive (3.1.2.10) and its will.
unfoldable pub saved_state : ConnectionState → List ℕ
saved_state AwaitingConnect = 0 ∷ []
saved_state (ConnectedAs key terms last_activity) =
    1 ∷ (count key ++ (eight last_activity ++ (bit terms.clean_session ∷ (number terms.keep_alive ++ saved_will terms.will))))
saved_state Closed = 2 ∷ []

-- A connection: worker, number, time at which it was opened, state, and the bytes of an incomplete
-- packet after their number.
unfoldable pub saved_connection : HubConnection → List ℕ
saved_connection connection =
    number connection.conn.worker ++ (count connection.conn.nth ++ (eight connection.since ++ (saved_state connection.stage
    ++ (eight (length connection.held) ++ connection.held))))

-- A broker: clock, next key, subscriptions, retained messages, sessions, connections.
unfoldable pub snapshot : HubState → List ℕ
snapshot hub =
    signature ++ (eight hub.clock ++ (eight hub.next_key
    ++ (listed saved_row hub.rows ++ (listed saved_message hub.retained
    ++ (listed saved_session hub.sessions ++ listed saved_connection hub.connections)))))

-- ---- the broker of a snapshot

-- An end as a snapshot keeps it: the session of the end (3.1.2.4), and the clean session flag and
-- the keep-alive of its client's connection. This is the state of that connection, or `Closed`.
abbrev pub kept_end : Option ℕ → ConnectionState → End → End
kept_end window stage end = record (resumed window true end.book end.received end.last) {
  state = if is_some (key_on stage) then Connected else Disconnected;
  clean = is_clean stage;
  keep_alive = keep_alive_on stage;
}

-- a session as a snapshot with these connections keeps it
abbrev pub kept_session : Option ℕ → List HubConnection → HubSession → HubSession
kept_session window connections session = record session { end = kept_end window (stage_for session.key connections) session.end }

-- a connection without its pending output
abbrev pub quieted : HubConnection → HubConnection
quieted connection = record connection { waiting = [] }

-- a broker without its pending output
abbrev pub quiet : HubState → HubState
quiet hub = record hub { connections = map quieted hub.connections }

-- A broker as a snapshot keeps it, under another configuration: it has no pending output, and each
-- end matches the connection of its client.
abbrev pub restored : HubConfig → HubState → HubState
restored config hub = record (quiet hub) { config = config; sessions = map (kept_session config.window hub.connections) hub.sessions }

-- The broker is what its snapshot keeps of it.
abbrev pub IsKeptWhole : HubState → Type 0
IsKeptWhole hub = restored hub.config hub ≡ hub

-- The identifiers that a session received are valid (2.3.1).
abbrev pub HasIdentifiers : HubSession → Type 0
HasIdentifiers session = (identifier : ℕ) → set.contains session.end.received identifier ≡ true → IsIdentifier identifier

-- This applies to each session of the broker.
abbrev pub IsStorable : HubState → Type 0
IsStorable hub = AllByRecursion HasIdentifiers hub.sessions

-- ---- laws

pub record SnapshotLaws : Type 0 where
  -- A snapshot keeps one broker.
  pub one : (config : HubConfig) (hub other : HubState) → IsStorable hub → IsStorable other
      → snapshot hub ≡ snapshot other → restored config hub ≡ restored config other
  -- So brokers that are kept whole, with one configuration, are equal if their snapshots are.
  pub equal : (hub other : HubState) → IsStorable hub → IsStorable other → IsKeptWhole hub → IsKeptWhole other
      → hub.config ≡ other.config → snapshot hub ≡ snapshot other → hub ≡ other
  -- A restored broker has the same snapshot, and is kept whole.
  pub again : (config : HubConfig) (hub : HubState) → snapshot (restored config hub) ≡ snapshot hub
  pub rests : (config : HubConfig) (hub : HubState) → IsKeptWhole (restored config hub)
  -- The pending output is not in a snapshot.
  pub silent : (hub : HubState) → snapshot (quiet hub) ≡ snapshot hub
