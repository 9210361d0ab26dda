-- HubStep: the result of an event (4.2, 4.6, 4.8).
use Rattle.std.specs.Prelude.{◌≡◌, ℕ, ◌+◌, ◌<◌, nat_lt, Bool, true, false, not, ◌&&◌, max, List, [], ◌∷◌, ◌++◌, length, map, filter, Option, Some, None, is_some, if◌then◌else◌}
use Rattle.mq_packet.specs.declared.packet.Packet.{Packet}
use Rattle.mq_decode.specs.declared.fault.DecodeFault.{DecodeFault}
use Rattle.mq_decode.specs.Grammar.{ReadsWithin, Pending, Faulty}
use Rattle.mq_decode.specs.Limits.{Bounds}
use Rattle.mq_end.specs.declared.reason.CloseReason.TheVariants as reasons
use Rattle.mq_end.specs.KeepAlive.{is_late}
use Rattle.mq_route.specs.declared.conn.Conn.{Conn}
use Rattle.mq_route.specs.declared.close.HubClose.{HubClose}
use Rattle.mq_route.specs.declared.close.HubClose.TheVariants.{Own, PeerEnded, NoConnect}
use Rattle.mq_route.specs.declared.event.HubEvent.{HubEvent}
use Rattle.mq_route.specs.declared.event.HubEvent.TheVariants.{Opened, Bytes, Ended, Tick, Collect}
use Rattle.mq_route.specs.declared.reply.HubReply.{HubReply}
use Rattle.mq_route.specs.declared.refusal.HubRefusal.{HubRefusal}
use Rattle.mq_route.specs.declared.refusal.HubRefusal.TheVariants as refusals
use Rattle.mq_route.specs.declared.connection_state.ConnectionState.{ConnectionState}
use Rattle.mq_route.specs.declared.connection_state.ConnectionState.TheVariants.{AwaitingConnect, ConnectedAs, Closed}
use Rattle.mq_route.specs.Hub.{HubState, HubConnection, HubSession, knows, stage_of, held_on, waiting_on, with_connection, without_connection, up_on, is_open}
use Rattle.mq_route.specs.Work.{Work, begin, with_connections, remove, close}
use Rattle.mq_route.specs.Arrives.{Growth, on_packet, on_malformed}

-- ---- incoming bytes

abbrev pub is_open_on : Conn → Work → Bool
is_open_on conn work = is_open (stage_of conn work.hub.connections)

-- the connection holds the bytes of an incomplete packet
abbrev pub holding : Conn → List ℕ → Work → Work
holding conn bytes work = with_connections (with_connection (λ x. record x { held = bytes }) conn) work

-- Bytes arrive on a connection: its packets are processed one after another, until one closes the
-- connection, and then the rest.
pub data OnBytes (limits : Bounds) (conn : Conn) : List ℕ → Work → Work → Type 0 where
  -- the bytes begin with a packet, which is processed first
  Arrives : (packet : Packet) (first rest : List ℕ) (growth : Growth) (work last : Work) → is_open_on conn work ≡ true → ReadsWithin limits packet first
      → OnBytes limits conn rest (on_packet conn packet growth work) last → OnBytes limits conn (first ++ rest) work last
  -- the bytes are an incomplete packet, and are held
  Waits : (bytes : List ℕ) (work : Work) → is_open_on conn work ≡ true → Pending limits bytes → OnBytes limits conn bytes work (holding conn bytes work)
  -- the bytes begin with a malformed packet
  Breaks : (bytes : List ℕ) (fault : DecodeFault) (fits : Bool) (work : Work) → is_open_on conn work ≡ true → Faulty limits bytes fault.kind fault.place
      → OnBytes limits conn bytes work (on_malformed conn fault fits work)
  -- there are bytes, and an allocation for them fails
  Starves : (bytes : List ℕ) (fits : Bool) (work : Work) → is_open_on conn work ≡ true → 0 < length bytes → OnBytes limits conn bytes work (close conn (Own reasons.Memory) fits work)
  -- the connection is closed, and ignores the bytes
  LetsGo : (bytes : List ℕ) (work : Work) → is_open_on conn work ≡ false → OnBytes limits conn bytes work work

-- ---- time

-- there is a limit, and more time than it has passed
abbrev pub has_passed : Option ℕ → ℕ → ℕ → Bool
has_passed None since now = false
has_passed (Some within) since now = nat_lt (since + within) now

-- the reason for which a tick closes a connection that was opened at this time: it waits for
-- CONNECT for too long (3.1), or its client is late (3.1.2.10)
abbrev pub late_reason : Option ℕ → ℕ → ℕ → ConnectionState → Option HubClose
late_reason within now since AwaitingConnect = if has_passed within since now then Some NoConnect else None
late_reason within now since (ConnectedAs key terms last_activity) =
    if is_late last_activity terms.keep_alive now then Some (Own reasons.KeepAlive) else None
late_reason within now since Closed = None

-- The late ones among these connections are closed one after another, in the order in which they
-- were opened.
pub data OnTick (within : Option ℕ) (now : ℕ) : List HubConnection → Work → Work → Type 0 where
  Done : (work : Work) → OnTick within now [] work work
  InTime : (connection : HubConnection) (connections : List HubConnection) (work last : Work) → late_reason within now connection.since connection.stage ≡ None
      → OnTick within now connections work last → OnTick within now (connection ∷ connections) work last
  Late : (connection : HubConnection) (connections : List HubConnection) (why : HubClose) (fits : Bool) (work last : Work) → late_reason within now connection.since connection.stage ≡ Some why
      → OnTick within now connections (close connection.conn why fits work) last → OnTick within now (connection ∷ connections) work last

-- the session's client is not connected, and disconnected longer ago than the limit
abbrev pub is_expired : HubState → HubSession → Bool
is_expired hub session = not (is_some (up_on session.key hub.connections)) && has_passed hub.config.session_expiry session.left hub.clock

-- the keys of the sessions that are expired
abbrev pub expired_keys : HubState → List ℕ
expired_keys hub = map (λ s. s.key) (filter (is_expired hub) hub.sessions)

-- sessions are removed one after another
abbrev pub remove_all : List ℕ → Work → Work
remove_all [] work = work
remove_all (key ∷ keys) work = remove_all keys (remove key work)

-- the expired sessions are removed
unfoldable pub expire : HubState → Work
expire hub = remove_all (expired_keys hub) (begin hub)

-- ---- events

-- why an event is refused, unless an allocation fails: its connection is unknown, or known already
-- (4.2)
abbrev pub event_refusal : HubEvent → HubState → Option HubRefusal
event_refusal (Opened conn) hub = if knows conn hub.connections then Some refusals.ConnInUse else None
event_refusal (Bytes conn piece) hub = if knows conn hub.connections then None else Some refusals.UnknownConn
event_refusal (Ended conn) hub = if knows conn hub.connections then None else Some refusals.UnknownConn
event_refusal (Tick now) hub = None
event_refusal (Collect conn) hub = if knows conn hub.connections then None else Some refusals.UnknownConn

-- a reply with the acts of a step and without output
abbrev pub done : Bool → Work → HubReply
done alive work = record { acts = work.did; output = []; alive = alive }

-- a new connection goes last
abbrev pub on_open : Conn → HubState → HubState
on_open conn hub = record hub { connections = hub.connections ++ record { conn = conn; stage = AwaitingConnect; held = []; waiting = []; since = hub.clock } ∷ [] }

abbrev pub close_if_open : Conn → Bool → Bool → Work → Work
close_if_open conn true fits work = close conn PeerEnded fits work
close_if_open conn false fits work = work

-- a connection that ends is closed if it is open, and then forgotten
abbrev pub on_end : Conn → Bool → HubState → Work
on_end conn fits hub = with_connections (without_connection conn) (close_if_open conn (is_open (stage_of conn hub.connections)) fits (begin hub))

-- the pending output is taken
abbrev pub on_collect : Conn → HubState → HubState
on_collect conn hub = record hub { connections = with_connection (λ x. record x { waiting = [] }) conn hub.connections }

-- the clock is the latest time so far
abbrev pub with_clock : ℕ → HubState → HubState
with_clock now hub = record hub { clock = max hub.clock now }

-- The result of an event, by its kind.
abbrev pub Does : HubState → HubEvent → HubReply → Work → Type 0
Does hub (Opened conn) reply work = (work ≡ begin (on_open conn hub)) × (reply ≡ done true work)
Does hub (Bytes conn piece) reply work =
    OnBytes hub.config.limits conn (held_on conn hub.connections ++ piece) (holding conn [] (begin hub)) work × (reply ≡ done (is_open_on conn work) work)
Does hub (Ended conn) reply work = (fits : Bool) × (work ≡ on_end conn fits hub) × (reply ≡ done false work)
Does hub (Tick now) reply work = OnTick hub.config.connect_within (max hub.clock now) hub.connections (expire (with_clock now hub)) work × (reply ≡ done true work)
Does hub (Collect conn) reply work =
    (work ≡ begin (on_collect conn hub)) × (reply ≡ record { acts = []; output = waiting_on conn hub.connections; alive = is_open (stage_of conn hub.connections) })

-- HubStep: an event results in this reply and this broker.
pub record HubStep (hub : HubState) (event : HubEvent) (reply : HubReply) (later_hub : HubState) : Type 0 where
  pub right : event_refusal event hub ≡ None
  pub work : Work
  pub does : Does hub event reply work
  pub after : later_hub ≡ work.hub
