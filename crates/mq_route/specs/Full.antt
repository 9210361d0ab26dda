-- A PUBLISH or SUBSCRIBE for whose messages a session has no room closes its connection: they need
-- more packet identifiers than it has free (2.3.1), or it may not store their bytes.
use Rattle.std.specs.Prelude.{◌≡◌, ◌⊎◌, ℕ, ◌-◌, ◌<◌, false, List, [], ◌∷◌, ◌++◌, length, map, sum_by, Some, None, if◌then◌else◌}
use Rattle.std.specs.List.{flat_map, count_by}
use Rattle.mq_packet.specs.declared.packet.Packet.{Packet}
use Rattle.mq_packet.specs.declared.packet.Packet.TheVariants as packets
use Rattle.mq_packet.specs.declared.message.Message.{Message}
use Rattle.mq_decode.specs.Limits.{Bounds}
use Rattle.mq_flow.specs.Sender.{uses}
use Rattle.mq_flow.specs.Stored.{message_bytes, stored_bytes}
use Rattle.mq_end.specs.declared.happening.Happening.{Happening}
use Rattle.mq_end.specs.declared.happening.Happening.TheVariants as happens
use Rattle.mq_end.specs.Both.{has_identifier}
use Rattle.mq_end.specs.Server.{server_gets}
use Rattle.mq_route.specs.declared.act.Act.{Act}
use Rattle.mq_route.specs.declared.act.Act.TheVariants as acts
use Rattle.mq_route.specs.declared.close.HubClose.{HubClose}
use Rattle.mq_route.specs.declared.close.HubClose.TheVariants.{Own, TargetFull, TakenOver, PeerEnded, NoConnect, TooManyMatches}
use Rattle.mq_route.specs.declared.config.HubConfig.{HubConfig}
use Rattle.mq_route.specs.declared.config.WhenFull.TheVariants.{ClosePublisher, DropCopy}
use Rattle.mq_route.specs.declared.conn.Conn.{Conn}
use Rattle.mq_route.specs.declared.event.HubEvent.{HubEvent}
use Rattle.mq_route.specs.declared.event.HubEvent.TheVariants.{Opened, Bytes, Ended, Tick, Collect}
use Rattle.mq_route.specs.declared.reply.HubReply.{HubReply}
use Rattle.mq_route.specs.Routed.{seen, routed_from}
use Rattle.mq_route.specs.Closes.{closes_for}
use Rattle.mq_route.specs.Hub.{HubState, HubSession, new_hub, stage_of, held_on, key_on, end_of}
use Rattle.mq_route.specs.Work.{Work, begin, leaves}
use Rattle.mq_route.specs.Arrives.{Growth, on_packet}
use Rattle.mq_route.specs.Step.{holding, OnBytes, Arrives, Waits, Breaks, Starves, LetsGo, Does, event_refusal}
use Rattle.mq_route.specs.Runs.{Episode, Follows, acts_of}

-- the connection, if this is the reason for its close
abbrev pub if_full : HubClose → Conn → List Conn
if_full TargetFull conn = conn ∷ []
if_full (Own reason) conn = []
if_full TakenOver conn = []
if_full PeerEnded conn = []
if_full NoConnect conn = []
if_full TooManyMatches conn = []

-- the connections that close because a session is full
abbrev pub full_closes : List Act → List Conn
full_closes log = closes_for if_full log

abbrev pub IsPublishOrSubscribe : Packet → Type 0
IsPublishOrSubscribe (packets.Publish packet) = Unit {0}
IsPublishOrSubscribe (packets.Subscribe identifier requests) = Unit {0}
IsPublishOrSubscribe packet = ⊥

-- the acts that a client's end asks for: its message is taken, or it subscribes to each filter
abbrev pub asked_by : ℕ → Happening → List Act
asked_by key (happens.Handed message) = acts.Took key message ∷ []
asked_by key (happens.Subscribe identifier requests) = map (λ request. acts.Subscribed key request.filter request.qos) requests
asked_by key other = []

abbrev pub asked : ℕ → List Happening → List Act
asked key happenings = flat_map (asked_by key) happenings

-- the number of packet identifiers that these messages need (2.3.1)
abbrev pub identifiers_for : List Message → ℕ
identifiers_for messages = count_by (λ m. has_identifier m.qos) messages

-- the number of bytes of these messages that a session stores
abbrev pub bytes_for : List Message → ℕ
bytes_for messages = sum_by (λ message. if has_identifier message.qos then message_bytes message else 0) messages

-- the session has fewer identifiers free than these messages need (2.3.1), or may not store their
-- bytes
abbrev pub IsShortOf : HubConfig → HubSession → List Message → Type 0
IsShortOf config session messages =
    (config.capacity - length (uses session.end.book) < identifiers_for messages)
    ⊎ (leaves config.most_stored (stored_bytes session.end.book) (bytes_for messages) ≡ false)

-- the session is one of these
abbrev pub IsAmong : HubSession → List HubSession → Type 0
IsAmong session [] = ⊥
IsAmong session (first ∷ rest) = (session ≡ first) ⊎ IsAmong session rest

-- After these acts, a PUBLISH or SUBSCRIBE arrives on a connected connection and closes it. Some
-- client's session has no room for the messages that it routes to the client (2.3.1, 3.3.5, 3.8.4).
pub record IsTooMuch (log : List Act) (config : HubConfig) (conn : Conn) (packet : Packet) (growth : Growth) (work : Work) : Type 0 where
  pub key : ℕ
  pub connected : key_on (stage_of conn work.hub.connections) ≡ Some key
  pub kind : IsPublishOrSubscribe packet
  pub session : HubSession
  pub exists : IsAmong session work.hub.sessions
  pub short : let now = seen session.key (log ++ work.did) in
      let happenings = (server_gets packet (end_of key work.hub.sessions)).happenings in
      IsShortOf config session (routed_from session.key now (asked key happenings))
  pub none_before : full_closes work.did ≡ []
  pub closes : full_closes (on_packet conn packet growth work).did ≡ conn ∷ []

-- one of the packets in these bytes is too much
abbrev pub ComesTooMuch : List Act → HubConfig → (limits : Bounds) (conn : Conn) (bytes : List ℕ) (start stop : Work)
    → OnBytes limits conn bytes start stop → Type 0
ComesTooMuch log config limits conn bytes start stop (Arrives packet first rest growth work last on reads more) =
    IsTooMuch log config conn packet growth work ⊎ ComesTooMuch log config limits conn rest (on_packet conn packet growth work) last more
ComesTooMuch log config limits conn bytes start stop (Waits rest work on pending) = ⊥
ComesTooMuch log config limits conn bytes start stop (Breaks rest fault fits work on faulty) = ⊥
ComesTooMuch log config limits conn bytes start stop (Starves rest fits work on some) = ⊥
ComesTooMuch log config limits conn bytes start stop (LetsGo rest work closed) = ⊥

-- copies without room are not dropped; the event has bytes, one of their packets is too much, and
-- its connection is the only one that closes for this reason
abbrev pub IsFullEvent : List Act → (hub : HubState) (event : HubEvent) (reply : HubReply) (work : Work) → Does hub event reply work → Type 0
IsFullEvent log hub (Bytes conn piece) reply work does = (hub.config.when_full ≡ ClosePublisher) × (full_closes work.did ≡ conn ∷ [])
    × ComesTooMuch log hub.config hub.config.limits conn (held_on conn hub.connections ++ piece) (holding conn [] (begin hub)) work does.0
IsFullEvent log hub (Opened conn) reply work does = ⊥
IsFullEvent log hub (Ended conn) reply work does = ⊥
IsFullEvent log hub (Tick now) reply work does = ⊥
IsFullEvent log hub (Collect conn) reply work does = ⊥

pub record FullLaws : Type 0 where
  -- in each step of a run, no connection closes because a session is full, or one does at the
  -- packet that is too much
  pub closes : (config : HubConfig) (before : List Episode) (hub : HubState) → Follows (new_hub config) before hub
      → (event : HubEvent) (reply : HubReply) (work : Work) → event_refusal event hub ≡ None → (does : Does hub event reply work)
      → (full_closes work.did ≡ []) ⊎ IsFullEvent (acts_of before) hub event reply work does
  -- under DropCopy, no connection closes because a session is full
  pub never : (config : HubConfig) → config.when_full ≡ DropCopy → (before : List Episode) (hub : HubState) → Follows (new_hub config) before hub
      → (event : HubEvent) (reply : HubReply) (work : Work) → event_refusal event hub ≡ None → Does hub event reply work → full_closes work.did ≡ []
