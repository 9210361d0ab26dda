-- The client end: its reaction to each packet and each call.
use Rattle.std.specs.Prelude.{ℕ, not, ◌&&◌, if◌then◌else◌, Option, Some, None, List, [], ◌∷◌, length, nat_lt}
use Rattle.mq_packet.specs.declared.connect.Connect.{Connect}
use Rattle.mq_packet.specs.declared.connack.ConnAck.{ConnAck}
use Rattle.mq_packet.specs.declared.connack.ConnAck.TheVariants as connacks
use Rattle.mq_packet.specs.declared.packet.Request.{Request}
use Rattle.mq_packet.specs.declared.packet.Packet.{Packet}
use Rattle.mq_packet.specs.declared.packet.Packet.TheVariants as packets
use Rattle.mq_flow.specs.declared.claim.Claim.TheVariants as claims
use Rattle.mq_flow.specs.Sender.{is_full, claim, release, awaits_suback, awaits_unsuback}
use Rattle.mq_end.specs.declared.state.State.{State}
use Rattle.mq_end.specs.declared.state.State.TheVariants.{Disconnected, Connecting, Connected}
use Rattle.mq_end.specs.declared.happening.Happening.TheVariants as happens
use Rattle.mq_end.specs.declared.reason.CloseReason.TheVariants as reasons
use Rattle.mq_end.specs.declared.refusal.PublishRefusal.{PublishRefusal}
use Rattle.mq_end.specs.declared.refusal.PublishRefusal.TheVariants as refusals
use Rattle.mq_end.specs.End.{End, Reply, silent, sends_packets, reports_event, over, closes, closes_after, renewed, becomes_connected, is_up, one_by_one}
use Rattle.mq_end.specs.Both.{flow_gets}
use Rattle.mq_end.specs.Sizes.{subscribe_size, unsubscribe_size}

-- ---- packets

-- A CONNACK arrives at a client that waits for it (3.2).
abbrev pub connack_gets : ConnAck → End → Reply
-- CONNECT is refused (3.2.2.3)
connack_gets (connacks.Refused code) end = closes (reasons.Refused code) end
-- It accepts. Session Present must be 0 after clean session 1 (3.2.2.2). It must be 1 if the
-- session is established, since otherwise the server has lost it (3.2.2.2, 3.1.2.4). Else the
-- client is connected.
connack_gets (connacks.Accepted session_present) end =
    if end.clean && session_present then closes reasons.Unexpected end else
    (if not end.clean && (end.known && not session_present) then closes reasons.SessionLost end else
    becomes_connected [] session_present end)

-- the first packet has to be CONNACK (3.2)
abbrev pub client_open_gets : Packet → End → Reply
client_open_gets (packets.ConnAck answer) end = connack_gets answer end
client_open_gets packet end = closes reasons.Unexpected end

-- A packet arrives at a connected client.
abbrev pub client_up_gets : Packet → End → Reply
-- SUBACK must have the identifier of a pending SUBSCRIBE, and one code for each of its filters
-- (3.8.4, 3.9).
client_up_gets (packets.SubAck id codes) end =
    if awaits_suback id (length codes) end.book then reports_event (happens.SubAck id codes) (record end { book = release id end.book }) else
    closes reasons.Unexpected end
-- UNSUBACK must have the identifier of a pending UNSUBSCRIBE (3.10.4, 3.11).
client_up_gets (packets.UnsubAck id) end =
    if awaits_unsuback id end.book then reports_event (happens.UnsubAck id) (record end { book = release id end.book }) else
    closes reasons.Unexpected end
-- PINGRESP (3.13)
client_up_gets packets.PingResp end = reports_event happens.Pong end
-- Messages and their acknowledgements; any other packet is a protocol violation (4.3, 4.8).
client_up_gets packet end = flow_gets packet end

-- A packet arrives at a client in this connection state.
abbrev pub client_gets_in : State → Packet → End → Reply
-- without a connection nothing comes
client_gets_in Disconnected packet end = silent end
client_gets_in Connecting packet end = client_open_gets packet end
client_gets_in Connected packet end = client_up_gets packet end

-- A packet arrives at the client (3.2 to 3.13).
abbrev pub client_gets : Packet → End → Reply
client_gets packet end = client_gets_in end.state packet end

-- packets arrive at once, one after another (4.6)
abbrev pub client_gets_all : List Packet → End → Reply
client_gets_all arrived end = one_by_one client_gets arrived end

-- ---- calls of its user

-- The user opens a connection with this CONNECT (3.1). One that was there is over first.
abbrev pub connects : Connect → End → Reply
connects connect end = sends_packets (packets.Connect connect ∷ []) (record (renewed connect.clean_session (over end)) { state = Connecting; keep_alive = connect.keep_alive })

-- SUBSCRIBE with this identifier (3.8)
abbrev pub subscribes : ℕ → List Request → End → Reply
subscribes id requests end = sends_packets (packets.Subscribe id requests ∷ []) (record end { book = claim id claims.Subscribe (length requests) end.book; last = id })

-- UNSUBSCRIBE with this identifier (3.10)
abbrev pub unsubscribes : ℕ → List (List ℕ) → End → Reply
unsubscribes id filters end = sends_packets (packets.Unsubscribe id filters ∷ []) (record end { book = claim id claims.Unsubscribe (length filters) end.book; last = id })

-- The first reason to refuse a packet of this remaining length (2.2.3) that needs an identifier
-- (2.3.1).
abbrev pub request_refusal : ℕ → ℕ → ℕ → End → Option PublishRefusal
request_refusal limit capacity size end =
    if not (is_up end.state) then Some refusals.NotConnected else
    (if nat_lt limit size then Some refusals.TooLarge else
    (if is_full capacity end.book then Some refusals.Full else None))

-- why SUBSCRIBE is refused (3.8)
abbrev pub subscribe_refusal : ℕ → ℕ → List Request → End → Option PublishRefusal
subscribe_refusal limit capacity requests end = request_refusal limit capacity (subscribe_size requests) end

-- why UNSUBSCRIBE is refused (3.10)
abbrev pub unsubscribe_refusal : ℕ → ℕ → List (List ℕ) → End → Option PublishRefusal
unsubscribe_refusal limit capacity filters end = request_refusal limit capacity (unsubscribe_size filters) end

-- the client leaves: DISCONNECT, and then it closes (3.14)
abbrev pub leaves : End → Reply
leaves end = closes_after (packets.Disconnect ∷ []) reasons.Left end

-- why DISCONNECT is refused (3.14)
abbrev pub leave_refusal : End → Option PublishRefusal
leave_refusal end = if is_up end.state then None else Some refusals.NotConnected
