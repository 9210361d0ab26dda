-- The server end, which belongs to one client: its reaction to each packet and each call.
use Rattle.std.specs.Prelude.{ℕ, ◌-◌, Bool, true, false, not, ◌&&◌, if◌then◌else◌, Option, Some, None, List, [], ◌∷◌, length, filter, nat_lt, ◌==◌}
use Rattle.std.specs.List.{list_any}
use Rattle.mq_packet.specs.declared.connect.Connect.{Connect}
use Rattle.mq_packet.specs.declared.connack.ConnAck.TheVariants as connacks
use Rattle.mq_packet.specs.declared.connack.RefusalCode.{RefusalCode}
use Rattle.mq_packet.specs.declared.connack.RefusalCode.TheVariants.{UnacceptableProtocolVersion, IdentifierRejected}
use Rattle.mq_packet.specs.declared.message.Message.{Message}
use Rattle.mq_packet.specs.declared.packet.SubAckCode.{SubAckCode}
use Rattle.mq_packet.specs.declared.packet.Packet.{Packet}
use Rattle.mq_packet.specs.declared.packet.Packet.TheVariants as packets
use Rattle.mq_flow.specs.Sender.{uses}
use Rattle.mq_end.specs.declared.state.State.{State}
use Rattle.mq_end.specs.declared.state.State.TheVariants.{Disconnected, Connecting, Connected}
use Rattle.mq_end.specs.declared.happening.Happening.{Happening}
use Rattle.mq_end.specs.declared.happening.Happening.TheVariants as happens
use Rattle.mq_end.specs.declared.reason.CloseReason.TheVariants as reasons
use Rattle.mq_end.specs.declared.refusal.PublishRefusal.{PublishRefusal}
use Rattle.mq_end.specs.declared.refusal.PublishRefusal.TheVariants as refusals
use Rattle.mq_end.specs.End.{End, Reply, silent, sends_packets, reports_event, over, closes, closes_after, renewed, becomes_connected, is_up, one_by_one}
use Rattle.mq_end.specs.Both.{flow_gets, has_identifier, publish_refusal}
use Rattle.mq_end.specs.Sizes.{publish_size, suback_size, unsuback_size}

-- ---- packets

-- a CONNECT is refused: CONNACK says why, and the connection is closed (3.2.2.3)
abbrev pub refuses : RefusalCode → End → Reply
refuses code end = closes_after (packets.ConnAck (connacks.Refused code) ∷ []) (reasons.Refused code) end

-- A CONNECT arrives at a server that waits for it (3.1.4).
abbrev pub connect_gets : Connect → End → Reply
-- an empty client identifier goes with clean session 1 only (3.1.3.1); else clean session decides
-- which session it is, and CONNACK says with Session Present whether it was there before (3.1.2.4,
-- 3.2.2.2)
connect_gets connect end =
    if not connect.clean_session && length connect.client_id == 0 then refuses IdentifierRejected end else
    becomes_connected
    (packets.ConnAck (connacks.Accepted (not connect.clean_session && end.known)) ∷ [])
    (not connect.clean_session && end.known)
    (record (renewed connect.clean_session end) { keep_alive = connect.keep_alive })

-- The first packet is a CONNECT of another protocol level (3.1.2.2).
abbrev pub level_refused : End → Reply
level_refused end = refuses UnacceptableProtocolVersion end

-- the first packet has to be CONNECT (3.1)
abbrev pub server_open_gets : Packet → End → Reply
server_open_gets (packets.Connect connect) end = connect_gets connect end
server_open_gets packet end = closes reasons.Unexpected end

-- A packet arrives at a connected server.
abbrev pub server_up_gets : Packet → End → Reply
-- The user answers SUBSCRIBE and UNSUBSCRIBE (3.8.4, 3.10.4).
server_up_gets (packets.Subscribe id requests) end = reports_event (happens.Subscribe id requests) end
server_up_gets (packets.Unsubscribe id filters) end = reports_event (happens.Unsubscribe id filters) end
-- PINGREQ is answered by PINGRESP (3.12)
server_up_gets packets.PingReq end = sends_packets (packets.PingResp ∷ []) end
-- DISCONNECT ends the connection (3.14)
server_up_gets packets.Disconnect end = closes reasons.Left end
-- Messages and their acknowledgements; any other packet is a protocol violation, also a second
-- CONNECT (3.1, 4.3, 4.8).
server_up_gets packet end = flow_gets packet end

-- A packet arrives at a server in this connection state.
abbrev pub server_gets_in : State → Packet → End → Reply
-- without a connection nothing comes
server_gets_in Disconnected packet end = silent end
server_gets_in Connecting packet end = server_open_gets packet end
server_gets_in Connected packet end = server_up_gets packet end

-- A packet arrives at the server (3.1 to 3.14).
abbrev pub server_gets : Packet → End → Reply
server_gets packet end = server_gets_in end.state packet end

-- packets arrive at once, one after another (4.6)
abbrev pub server_gets_all : List Packet → End → Reply
server_gets_all arrived end = one_by_one server_gets arrived end

-- A message is delivered (4.3).
abbrev pub is_handed : Happening → Bool
is_handed (happens.Handed message) = true
is_handed happening = false

-- the arrival of the packet would hand a message on (4.3)
abbrev pub would_hand : Packet → End → Bool
would_hand packet end = list_any is_handed (server_gets packet end).happenings

-- ---- calls of its user

-- a connection is opened (4.2); one that was there is over first
abbrev pub opens : End → Reply
opens end = silent (record (over end) { state = Connecting })

-- The first reason to refuse a message: the client must have a session (3.1.2.4).
abbrev pub server_publish_refusal : ℕ → ℕ → Message → End → Option PublishRefusal
server_publish_refusal limit capacity message end = if end.known then publish_refusal limit capacity message end else Some refusals.NoSession

-- The first reason why not all of these messages could be published one after another: one of them
-- is refused for lack of a session (3.1.2.4) or a connection, or for its size (2.2.3); or fewer
-- identifiers are free than they need (2.3.1).
abbrev pub ready_refusal : ℕ → ℕ → List Message → End → Option PublishRefusal
ready_refusal limit capacity messages end =
    if list_any (λ message. not end.known) messages then Some refusals.NoSession else
    (if list_any (λ message. not (has_identifier message.qos) && not (is_up end.state)) messages then Some refusals.NotConnected else
    (if list_any (λ message. nat_lt limit (publish_size message)) messages then Some refusals.TooLarge else
    (if nat_lt (capacity - length (uses end.book)) (length (filter (λ message. has_identifier message.qos) messages)) then Some refusals.Full else None)))

-- SUBACK answers a SUBSCRIBE (3.9).
abbrev pub subacks : ℕ → List SubAckCode → End → Reply
subacks id codes end = sends_packets (packets.SubAck id codes ∷ []) end

-- UNSUBACK answers an UNSUBSCRIBE (3.11).
abbrev pub unsubacks : ℕ → End → Reply
unsubacks id end = sends_packets (packets.UnsubAck id ∷ []) end

-- The first reason to refuse a response of this remaining length (2.2.3).
abbrev pub answer_refusal : ℕ → ℕ → End → Option PublishRefusal
answer_refusal limit size end =
    if not (is_up end.state) then Some refusals.NotConnected else
    (if nat_lt limit size then Some refusals.TooLarge else None)

-- why SUBACK is refused (3.9)
abbrev pub suback_refusal : ℕ → List SubAckCode → End → Option PublishRefusal
suback_refusal limit codes end = answer_refusal limit (suback_size codes) end

-- why UNSUBACK is refused (3.11)
abbrev pub unsuback_refusal : ℕ → End → Option PublishRefusal
unsuback_refusal limit end = answer_refusal limit unsuback_size end
