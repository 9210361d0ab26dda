-- The state of a step in progress, and its elementary changes.
use Rattle.std.specs.Prelude.{ℕ, ◌-◌, Bool, true, false, not, ◌&&◌, ◌||◌, ◌==◌, nat_le, List, [], ◌∷◌, ◌++◌, length, map, sum_by, Option, Some, None, if◌then◌else◌}
use Rattle.std.specs.List.{list_all, count_by}
use Rattle.mq_topic.specs.Rows.{with_row, without_row, without_client}
use Rattle.mq_packet.specs.declared.connect.Will.{Will}
use Rattle.mq_packet.specs.declared.message.Message.{Message}
use Rattle.mq_packet.specs.declared.packet.Packet.{Packet}
use Rattle.mq_packet.specs.declared.packet.Request.{Request}
use Rattle.mq_packet.specs.Encoding.{encodings, encoded_size}
use Rattle.mq_flow.specs.Next.{next_identifier}
use Rattle.mq_flow.specs.Sender.{uses, is_full}
use Rattle.mq_flow.specs.Stored.{message_bytes, stored_bytes}
use Rattle.mq_end.specs.declared.reason.CloseReason.TheVariants.{Left}
use Rattle.mq_end.specs.End.{End, Reply, over}
use Rattle.mq_end.specs.Both.{has_identifier, publishes}
use Rattle.mq_end.specs.Sizes.{publish_size}
use Rattle.mq_route.specs.declared.config.HubConfig.{HubConfig}
use Rattle.mq_route.specs.declared.config.WhenFull.{WhenFull}
use Rattle.mq_route.specs.declared.config.WhenFull.TheVariants.{ClosePublisher, DropCopy}
use Rattle.mq_route.specs.declared.conn.Conn.{Conn}
use Rattle.mq_route.specs.declared.act.Act.{Act}
use Rattle.mq_route.specs.declared.act.Act.TheVariants as acts
use Rattle.mq_route.specs.declared.close.HubClose.{HubClose}
use Rattle.mq_route.specs.declared.close.HubClose.TheVariants.{Own}
use Rattle.mq_route.specs.declared.connection_state.ConnectionState.{ConnectionState}
use Rattle.mq_route.specs.declared.connection_state.ConnectionState.TheVariants.{AwaitingConnect, ConnectedAs, Closed}
use Rattle.mq_route.specs.Copies.{will_message, kept, retained_for}
use Rattle.mq_route.specs.Hub.{HubState, HubSession, HubConnection, with_connection, waiting_on, stage_of, key_on, up_on, end_of, with_end, with_left, without_session, for_key, copies_of}

-- hub: the broker. did: its acts. sent: the packets that it sent, each with its connection. came:
-- the packets of connected clients, each with the client's key, without those that closed their
-- connection.
pub record Work : Type 0 where
  pub hub : HubState
  pub did : List Act
  pub sent : List (Conn × Packet)
  pub came : List (ℕ × Packet)

-- the state before the first change
abbrev pub begin : HubState → Work
begin hub = record { hub = hub; did = []; sent = []; came = [] }

-- one more act
abbrev pub said : Act → Work → Work
said act work = record work { did = work.did ++ act ∷ [] }

-- a change of the connections, or of the sessions
abbrev pub with_connections : (List HubConnection → List HubConnection) → Work → Work
with_connections change work = record work { hub = record work.hub { connections = change work.hub.connections } }

abbrev pub with_sessions : (List HubSession → List HubSession) → Work → Work
with_sessions change work = record work { hub = record work.hub { sessions = change work.hub.sessions } }

-- the connection is in this state
abbrev pub staged : Conn → ConnectionState → Work → Work
staged conn stage work = with_connections (with_connection (λ x. record x { stage = stage }) conn) work

-- a connection is closed: it drops its incomplete packet, and keeps its pending output
abbrev pub shut : Conn → Work → Work
shut conn work = with_connections (with_connection (λ x. record x { stage = Closed; held = [] }) conn) work

-- ---- outgoing packets

-- packets are queued on a connection: their encodings are appended to its pending output
unfoldable pub put_on : Conn → List Packet → Work → Work
put_on conn outgoing work = record work {
  hub = record work.hub { connections = with_connection (λ x. record x { waiting = x.waiting ++ encodings outgoing }) conn work.hub.connections };
  sent = work.sent ++ map (λ packet. (conn, packet)) outgoing;
}

-- packets are queued on the client's connection, if it has one
abbrev pub put_where : Option Conn → List Packet → Work → Work
put_where None outgoing work = work
put_where (Some conn) outgoing work = put_on conn outgoing work

-- the session's end makes a move, and its packets are queued for the client
unfoldable pub does : ℕ → (End → Reply) → Work → Work
does key move work =
    put_where (up_on key work.hub.connections) (move (end_of key work.hub.sessions)).out
    (with_sessions (with_end key (move (end_of key work.hub.sessions)).end) work)

-- ---- placed messages

-- an end publishes a message with the next identifier (2.3.1, 4.3)
abbrev pub publishes_next : Message → End → Reply
publishes_next message end = publishes (next_identifier end.last end.book) message end

-- copies of QoS 1 and 2 without room are dropped
abbrev pub drops_copies : WhenFull → Bool
drops_copies ClosePublisher = false
drops_copies DropCopy = true

-- a limit leaves room for this number of bytes next to those in use; None: there is no limit
abbrev pub leaves : Option ℕ → ℕ → ℕ → Bool
leaves None used more = true
leaves (Some most) used more = nat_le more (most - used)

-- the copy has QoS 1 or 2, and the client's session has no identifier free for it (2.3.1), or may
-- not store its bytes
abbrev pub lacks_room : ℕ → Message → HubState → Bool
lacks_room key message hub =
    has_identifier message.qos
    && (is_full hub.config.capacity (end_of key hub.sessions).book
    || not (leaves hub.config.most_stored (stored_bytes (end_of key hub.sessions).book) (message_bytes message)))

-- the length of the pending output of the client's connection; 0 if it has none
abbrev pub pending_on : Option Conn → List HubConnection → ℕ
pending_on None connections = 0
pending_on (Some conn) connections = length (waiting_on conn connections)

-- the number of bytes of the PUBLISH of a message (2.2, 3.3)
abbrev pub publish_bytes : Message → ℕ
publish_bytes message = encoded_size (publish_size message)

-- the copy has QoS 0, and the client's connection may not have its bytes as pending output
abbrev pub lacks_output : ℕ → Message → HubState → Bool
lacks_output key message hub =
    not (leaves hub.config.most_waiting (pending_on (up_on key hub.connections) hub.connections) (publish_bytes message))
    && not (has_identifier message.qos)

-- the client misses the copy
abbrev pub is_missed : ℕ → Message → HubState → Bool
is_missed key message hub = (drops_copies hub.config.when_full && lacks_room key message hub) || lacks_output key message hub

-- a copy that is due is placed for a client (3.3.5), or the client misses it and nothing else
-- changes
unfoldable pub enqueue : ℕ → Message → Work → Work
enqueue key message work =
    if is_missed key message work.hub then said (acts.Missed key message) work
    else said (acts.Placed key message) (does key (publishes_next message) work)

-- copies are placed or missed one after another
abbrev pub enqueue_all : List (ℕ × Message) → Work → Work
enqueue_all [] work = work
enqueue_all (first ∷ rest) work = enqueue_all rest (enqueue first.0 first.1 work)

-- the number of identifiers that a client's copies need (2.3.1)
abbrev pub needs : ℕ → List (ℕ × Message) → ℕ
needs key copies = count_by (λ pair. pair.0 == key && has_identifier pair.1.qos) copies

-- the number of bytes of these that the client's session stores
abbrev pub needed_bytes : ℕ → List (ℕ × Message) → ℕ
needed_bytes key copies = sum_by (λ pair. if pair.0 == key && has_identifier pair.1.qos then message_bytes pair.1 else 0) copies

-- the session has enough identifiers free for its copies (2.3.1), and may store their bytes
abbrev pub fits_in : HubConfig → List (ℕ × Message) → HubSession → Bool
fits_in config copies session =
    nat_le (needs session.key copies) (config.capacity - length (uses session.end.book))
    && leaves config.most_stored (stored_bytes session.end.book) (needed_bytes session.key copies)

-- each session has room for its copies
unfoldable pub all_fit : List (ℕ × Message) → HubState → Bool
all_fit copies hub = list_all (fits_in hub.config copies) hub.sessions

-- copies without room are dropped, or there is room for all
unfoldable pub have_room : List (ℕ × Message) → HubState → Bool
have_room copies hub = drops_copies hub.config.when_full || all_fit copies hub

-- after this act, a message is retained (3.3.1.3), and its copies are placed or missed (3.3.5)
unfoldable pub deliver : Act → Message → Work → Work
deliver act message work =
    enqueue_all (copies_of message work.hub) (said act (record work { hub = record work.hub { retained = kept message work.hub.retained } }))

-- ---- the end of sessions, and wills

-- a session is removed, with its subscriptions (3.1.2.4)
unfoldable pub remove : ℕ → Work → Work
remove key work = said (acts.Removed key) (record work {
  hub = record work.hub { rows = without_client key work.hub.rows; sessions = without_session key work.hub.sessions };
})

-- a client's will is published (3.1.2.5) if there is room for all its copies, and dropped otherwise
unfoldable pub last_will : ℕ → Option Will → Bool → Work → Work
last_will key None fits work = work
last_will key (Some will) fits work =
    if fits && have_room (copies_of (will_message will) work.hub) work.hub
    then deliver (acts.Will key (will_message will)) (will_message will) work
    else said (acts.WillDropped key) work

-- a DISCONNECT deletes the will (3.1.2.5, 3.14.4)
abbrev pub will_after : HubClose → Option Will → Option Will
will_after (Own Left) will = None
will_after why will = will

-- a session with clean session 1 ends with its connection (3.1.2.4)
abbrev pub remove_if : Bool → ℕ → Work → Work
remove_if true key work = remove key work
remove_if false key work = work

-- after a client's connection closed: its session is disconnected, removed if it is clean, and then
-- the will is published
unfoldable pub leaves_behind : HubClose → Bool → ConnectionState → Work → Work
leaves_behind why fits AwaitingConnect work = work
leaves_behind why fits (ConnectedAs key terms last_activity) work =
    last_will key (will_after why terms.will) fits
    (remove_if terms.clean_session key (with_sessions (with_end key (over (end_of key work.hub.sessions))) work))
leaves_behind why fits Closed work = work

-- a connection is shut down; fits: the allocations for its will succeed
unfoldable pub shut_down : Conn → HubClose → Bool → Work → Work
shut_down conn why fits work = leaves_behind why fits (stage_of conn work.hub.connections) (said (acts.Closed conn why) (shut conn work))

-- a connection is closed (4.8): it is shut down, and the client's session stores the time
unfoldable pub close : Conn → HubClose → Bool → Work → Work
close conn why fits work =
    with_sessions (with_left (key_on (stage_of conn work.hub.connections)) work.hub.clock) (shut_down conn why fits work)

-- ---- subscriptions

-- a client subscribes to filters (3.8.4)
abbrev pub subscribed : ℕ → List Request → Work → Work
subscribed key [] work = work
subscribed key (request ∷ rest) work =
    subscribed key rest (said (acts.Subscribed key request.filter request.qos) (record work { hub = record work.hub { rows = with_row key request.filter request.qos work.hub.rows } }))

-- a client unsubscribes from filters (3.10.4)
abbrev pub unsubscribed : ℕ → List (List ℕ) → Work → Work
unsubscribed key [] work = work
unsubscribed key (topic_filter ∷ rest) work =
    unsubscribed key rest (said (acts.Unsubscribed key topic_filter) (record work { hub = record work.hub { rows = without_row key topic_filter work.hub.rows } }))

-- the retained messages for new subscriptions, filter by filter (3.3.1.3, 3.8.4)
abbrev pub retained_copies : ℕ → List Request → List Message → List (ℕ × Message)
retained_copies key [] messages = []
retained_copies key (request ∷ rest) messages = for_key key (retained_for request.filter request.qos messages) ++ retained_copies key rest messages
