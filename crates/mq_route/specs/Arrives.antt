-- A packet arrives on a connection (3.1 to 3.14).
use Rattle.std.specs.Prelude.{ℕ, ◌+◌, ◌*◌, Bool, true, false, not, List, [], ◌∷◌, ◌++◌, length, map, Option, Some, None, if◌then◌else◌}
use Rattle.std.specs.List.{flat_map}
use Rattle.mq_packet.specs.declared.connack.ConnAck.TheVariants as connacks
use Rattle.mq_packet.specs.declared.connack.RefusalCode.{RefusalCode}
use Rattle.mq_packet.specs.declared.connect.Connect.{Connect}
use Rattle.mq_packet.specs.declared.message.Message.{Message}
use Rattle.mq_packet.specs.declared.packet.Packet.{Packet}
use Rattle.mq_packet.specs.declared.packet.Packet.TheVariants as packets
use Rattle.mq_packet.specs.declared.packet.Request.{Request}
use Rattle.mq_packet.specs.declared.packet.SubAckCode.{SubAckCode}
use Rattle.mq_packet.specs.declared.packet.SubAckCode.TheVariants.{Granted}
use Rattle.mq_decode.specs.declared.fault.DecodeFault.{DecodeFault}
use Rattle.mq_end.specs.declared.happening.Happening.{Happening}
use Rattle.mq_end.specs.declared.happening.Happening.TheVariants as happens
use Rattle.mq_end.specs.declared.reason.CloseReason.{CloseReason}
use Rattle.mq_end.specs.declared.reason.CloseReason.TheVariants as reasons
use Rattle.mq_end.specs.End.{End, Reply}
use Rattle.mq_end.specs.Server.{server_gets, opens, subacks, unsubacks}
use Rattle.mq_end.specs.State.{server_faulted}
use Rattle.mq_route.specs.declared.conn.Conn.{Conn}
use Rattle.mq_route.specs.declared.act.Act.TheVariants as acts
use Rattle.mq_route.specs.declared.close.HubClose.TheVariants.{Own, TargetFull, TakenOver, TooManyMatches}
use Rattle.mq_route.specs.declared.connection_state.ConnectionState.{ConnectionState}
use Rattle.mq_route.specs.declared.connection_state.ConnectionTerms.{ConnectionTerms}
use Rattle.mq_route.specs.declared.connection_state.ConnectionState.TheVariants.{AwaitingConnect, ConnectedAs, Closed}
use Rattle.mq_route.specs.Hub.{HubState, new_end, with_connection, stage_of, up_on, is_open, key_on, key_of, end_of, end_on, copies_of}
use Rattle.mq_route.specs.Welcome.{client_of, ends_with, refusal}
use Rattle.mq_route.specs.Work.{Work, said, with_connections, staged, put_on, does, leaves, enqueue_all, have_room, deliver, remove, close, subscribed, unsubscribed, retained_copies}

-- Whether allocations succeed for a packet, and for the will that it publishes. A packet publishes
-- at most one will: that of its own connection if it closes, or that of the connection that it
-- takes over.
pub record Growth : Type 0 where
  pub fits : Bool
  pub will_fits : Bool

-- ---- what a session's end reports

-- each request is granted the QoS that it asks for (3.9.3)
abbrev pub granted : List Request → List SubAckCode
granted requests = map (λ r. Granted r.qos) requests

-- the copies that a report of the client's end makes due
abbrev pub due_by : ℕ → HubState → Happening → List (ℕ × Message)
due_by key hub (happens.Handed message) = copies_of message hub
due_by key hub (happens.Subscribe identifier requests) = retained_copies key requests hub.retained
due_by key hub told = []

abbrev pub due : ℕ → HubState → List Happening → List (ℕ × Message)
due key hub told = flat_map (due_by key hub) told

-- The broker acts on a report of the client's end, on connection `conn`.
unfoldable pub answers : Conn → ℕ → Happening → Work → Work
-- the client is connected (3.2)
answers conn key (happens.Up present) work = said (acts.Up conn key present) work
-- a message is published: it is taken, retained and placed (3.3.1.3, 3.3.5)
answers conn key (happens.Handed message) work = deliver (acts.Took key message) message work
-- SUBSCRIBE: the subscriptions are stored, then SUBACK is sent, then the retained messages (3.8.4)
answers conn key (happens.Subscribe identifier requests) work =
    enqueue_all (retained_copies key requests work.hub.retained) (does key (subacks identifier (granted requests)) (subscribed key requests work))
-- UNSUBSCRIBE: the subscriptions are removed, and UNSUBACK is sent even if there were none (3.10.4)
answers conn key (happens.Unsubscribe identifier filters) work = does key (unsubacks identifier) (unsubscribed key filters work)
-- a server end reports nothing else
answers conn key (happens.SubAck identifier codes) work = work
answers conn key (happens.UnsubAck identifier) work = work
answers conn key happens.Pong work = work

abbrev pub answers_all : Conn → ℕ → List Happening → Work → Work
answers_all conn key [] work = work
answers_all conn key (told ∷ later) work = answers_all conn key later (answers conn key told work)

-- ---- a packet on a connected connection

-- Three outcomes: the end closes the connection; a session has no room for the due copies, and the
-- packet does nothing but close its connection; or the end takes the packet, and the broker acts on
-- its reports.
unfoldable pub replies : Conn → ℕ → (End → Reply) → Option CloseReason → Bool → Work → Work
replies conn key move (Some reason) fits work =
    close conn (Own reason) fits (put_on conn (move (end_of key work.hub.sessions)).out work)
replies conn key move None fits work =
    if have_room (due key work.hub (move (end_of key work.hub.sessions)).happenings) work.hub
    then answers_all conn key (move (end_of key work.hub.sessions)).happenings (does key move work)
    else close conn TargetFull fits work

-- a packet is passed to the client's end
abbrev pub on_passed_packet : Conn → ℕ → Packet → Bool → Work → Work
on_passed_packet conn key packet fits work =
    replies conn key (server_gets packet) (server_gets packet (end_of key work.hub.sessions)).close fits work

-- a SUBSCRIBE has too many filters for the number of retained messages (3.8.4)
abbrev pub is_too_broad : Packet → HubState → Bool
is_too_broad (packets.Subscribe identifier requests) hub = not (leaves hub.config.most_matches 0 (length requests * length hub.retained))
is_too_broad packet hub = false

-- a SUBSCRIBE that is too broad does nothing but close its connection
abbrev pub on_connected_packet : Conn → ℕ → Packet → Bool → Work → Work
on_connected_packet conn key packet fits work =
    if is_too_broad packet work.hub then close conn TooManyMatches fits work
    else on_passed_packet conn key packet fits work

-- ---- CONNECT

-- the session's end takes the CONNECT on a new connection (3.1.4, 3.2)
abbrev pub greeting : Connect → End → Reply
greeting connect end = server_gets (packets.Connect connect) (opens end).end

-- the part of a CONNECT that applies while its connection is connected
abbrev pub terms_of : Connect → ConnectionTerms
terms_of connect = record { clean_session = connect.clean_session; keep_alive = connect.keep_alive; will = connect.will }

unfoldable pub resume_session : Conn → Connect → ℕ → Work → Work
resume_session conn connect key work =
    answers_all conn key (greeting connect (end_of key work.hub.sessions)).happenings
    (does key (greeting connect) (staged conn (ConnectedAs key (terms_of connect) work.hub.clock) work))

-- a new session gets the next key (3.1.2.4)
unfoldable pub new_session : List ℕ → Work → Work
new_session client work = record work {
  hub = record work.hub {
    next_key = work.hub.next_key + 1;
    sessions = work.hub.sessions ++ record { client = client; key = work.hub.next_key; end = new_end work.hub.config; left = work.hub.clock } ∷ [];
  };
}

abbrev pub start_session : Conn → Connect → List ℕ → Work → Work
start_session conn connect client work = resume_session conn connect work.hub.next_key (new_session client work)

-- the previous connection of the client is closed first (3.1.4)
abbrev pub take_over : Option Conn → Bool → Work → Work
take_over None fits work = work
take_over (Some conn) fits work = close conn TakenOver fits work

-- The session continues, unless it ended with the connection that was taken over, or the CONNECT
-- has clean session 1 (3.1.2.4).
unfoldable pub goes_on : Conn → Connect → List ℕ → ℕ → Bool → Work → Work
goes_on conn connect client key true work = start_session conn connect client work
goes_on conn connect client key false work =
    if connect.clean_session then start_session conn connect client (remove key work)
    else resume_session conn connect key work

abbrev pub accept_connect : Conn → Connect → List ℕ → Option ℕ → Bool → Work → Work
accept_connect conn connect client None fits work = start_session conn connect client work
accept_connect conn connect client (Some key) fits work =
    goes_on conn connect client key (ends_with key work.hub) (take_over (up_on key work.hub.connections) fits work)

-- a refused CONNECT is answered by CONNACK, and its connection is closed (3.2.2.3)
unfoldable pub on_connect : Conn → Connect → Option RefusalCode → Bool → Work → Work
on_connect conn connect (Some code) fits work =
    close conn (Own (reasons.Refused code)) fits (put_on conn (packets.ConnAck (connacks.Refused code) ∷ []) work)
on_connect conn connect None fits work =
    accept_connect conn connect (client_of connect work.hub.sessions) (key_of (client_of connect work.hub.sessions) work.hub.sessions) fits work

-- the first packet must be CONNECT (3.1)
unfoldable pub on_first_packet : Conn → Packet → Bool → Work → Work
on_first_packet conn (packets.Connect connect) fits work = on_connect conn connect (refusal connect work.hub) fits work
on_first_packet conn packet fits work = close conn (Own reasons.Unexpected) fits work

-- ---- any packet

-- a packet in each state of its connection
unfoldable pub dispatch_packet : Conn → Packet → Bool → ConnectionState → Work → Work
dispatch_packet conn packet fits AwaitingConnect work = on_first_packet conn packet fits work
dispatch_packet conn packet fits (ConnectedAs key terms last_activity) work = on_connected_packet conn key packet fits work
dispatch_packet conn packet fits Closed work = work

-- the time of the last packet is now (3.1.2.10)
abbrev pub touched : ℕ → ConnectionState → ConnectionState
touched now AwaitingConnect = AwaitingConnect
touched now (ConnectedAs key terms last_activity) = ConnectedAs key terms now
touched now Closed = Closed

abbrev pub touched_on : Conn → Work → Work
touched_on conn work = with_connections (with_connection (λ x. record x { stage = touched work.hub.clock x.stage }) conn) work

-- A packet is processed; if an allocation for it fails, its connection is closed.
unfoldable pub arrives : Conn → Packet → Growth → Work → Work
arrives conn packet growth work =
    if growth.fits then dispatch_packet conn packet growth.will_fits (stage_of conn work.hub.connections) (touched_on conn work)
    else close conn (Own reasons.Memory) growth.will_fits work

-- the packet is logged if its client was connected and its connection is still open
abbrev pub noted : Option ℕ → Bool → Packet → List (ℕ × Packet)
noted (Some key) true packet = (key, packet) ∷ []
noted (Some key) false packet = []
noted None still packet = []

-- a packet is processed and logged
unfoldable pub on_packet : Conn → Packet → Growth → Work → Work
on_packet conn packet growth work = record (arrives conn packet growth work) {
  came = (arrives conn packet growth work).came
      ++ noted (key_on (stage_of conn work.hub.connections)) (is_open (stage_of conn (arrives conn packet growth work).hub.connections)) packet;
}

-- the connection closes if its end closes
abbrev pub closes_by : Conn → Option CloseReason → Bool → Work → Work
closes_by conn None fits work = work
closes_by conn (Some reason) fits work = close conn (Own reason) fits work

-- how the connection's end reacts to malformed bytes (3.1.2.2, 4.8)
abbrev pub broken : Conn → DecodeFault → Work → Reply
broken conn fault work = server_faulted fault (end_on (stage_of conn work.hub.connections) work.hub.sessions)

-- Malformed bytes arrive (4.8). The end decides on an answer and on the reason for the close.
unfoldable pub on_malformed : Conn → DecodeFault → Bool → Work → Work
on_malformed conn fault fits work = closes_by conn (broken conn fault work).close fits (put_on conn (broken conn fault work).out work)
