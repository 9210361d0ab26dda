-- The room of an end that is ready for messages.
use Rattle.std.specs.Prelude.{◌≡◌, ℕ, ◌+◌, ◌<◌, ◌≤◌, ◌^◌, Bool, true, false, if◌then◌else◌, List, [], ◌∷◌, length, filter}
use Rattle.mq_topic.specs.declared.qos.Qos.TheVariants.{Q2}
use Rattle.mq_packet.specs.declared.connect.Connect.{Connect}
use Rattle.mq_packet.specs.declared.message.Message.{Message}
use Rattle.mq_packet.specs.declared.packet.Packet.{Packet}
use Rattle.mq_packet.specs.declared.packet.Packet.TheVariants as packets
use Rattle.mq_packet.specs.Encoding.{fields}
use Rattle.mq_flow.specs.Sender.{same_qos}
use Rattle.mq_end.specs.declared.state.State.{State}
use Rattle.mq_end.specs.declared.state.State.TheVariants.{Connecting}
use Rattle.mq_end.specs.End.{is_up}
use Rattle.mq_end.specs.Server.{opens, server_gets}
use Rattle.mq_end.specs.Both.{has_identifier}
use Rattle.mq_end.specs.Sizes.{publish_size}
use Rattle.mq_end.specs.State.{EndState}

-- The most bytes of a packet of this remaining length: its first one, up to four of the length
-- itself, and its fields (2.2).
abbrev pub whole_size : ℕ → ℕ
whole_size remaining = 5 + remaining

-- the most bytes of packets
abbrev pub packets_size : List Packet → ℕ
packets_size [] = 0
packets_size (packet ∷ rest) = whole_size (length (fields packet)) + packets_size rest

-- the most bytes of the PUBLISHes of messages
abbrev pub publishes_size : List Message → ℕ
publishes_size [] = 0
publishes_size (message ∷ rest) = whole_size (publish_size message) + publishes_size rest

-- The size of the messages that are sent at once: all if the end is connected (4.3).
abbrev pub size_at_once : State → List Message → ℕ
size_at_once state ms = if is_up state then publishes_size ms else 0

-- An end has room to publish these messages and to send `more` other bytes without allocation.
pub record HasRoom (ms : List Message) (more : ℕ) (link : EndState) : Type 0 where
  pub messages : length (filter (λ message. has_identifier message.qos) ms) ≤ link.room.messages
  pub bytes : length link.output + (size_at_once link.end.state ms + more) ≤ link.room.bytes

-- the packet is a PUBLISH of quality of service 2, whose identifier is stored (4.3.3)
abbrev pub is_exactly_once : Packet → Bool
is_exactly_once (packets.Publish packet) = same_qos Q2 packet.message.qos
is_exactly_once packet = false

-- The packet has no text, payload or list, so nothing of it is copied (3.2, 3.4 to 3.7, 3.11 to
-- 3.14).
abbrev pub is_plain : Packet → Bool
is_plain (packets.Connect connect) = false
is_plain (packets.Publish packet) = false
is_plain (packets.Subscribe identifier requests) = false
is_plain (packets.SubAck identifier codes) = false
is_plain (packets.Unsubscribe identifier filters) = false
is_plain packet = true

-- each of these packets has a remaining length that can be encoded (2.2.3)
abbrev pub AreEncodable : List Packet → Type 0
AreEncodable [] = Unit {0}
AreEncodable (packet ∷ rest) = (length (fields packet) < 2 ^ 28) × AreEncodable rest

-- An end has room to send these packets without allocation.
abbrev pub FitsRoom : List Packet → EndState → Type 0
FitsRoom ps link = length link.output + packets_size ps ≤ link.room.bytes

-- An end can send these packets without allocation; to send none it needs no room.
abbrev pub CanSend : List Packet → EndState → Type 0
CanSend [] link = Unit {0}
CanSend (packet ∷ more) link = FitsRoom (packet ∷ more) link

-- An end has room to connect by this CONNECT on a new connection: for CONNACK and all
-- retransmissions (3.2, 4.4), then to publish these messages and to send `more` other bytes.
pub record HasConnectRoom (connect : Connect) (ms : List Message) (more : ℕ) (link : EndState) : Type 0 where
  pub messages : length (filter (λ message. has_identifier message.qos) ms) ≤ link.room.messages
  pub bytes : packets_size (server_gets (packets.Connect connect) (opens link.end).end).out + (publishes_size ms + more) ≤ link.room.bytes
  pub encodable : AreEncodable (server_gets (packets.Connect connect) (opens link.end).end).out

-- An end waits for the CONNECT of an open connection and has no pending output (3.1).
pub record AwaitsConnect (link : EndState) : Type 0 where
  pub state : link.end.state ≡ Connecting
  pub clean : link.end.clean ≡ false
  pub output : link.output ≡ []
