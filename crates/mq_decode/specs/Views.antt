-- The packet behind a view, and the result of viewing a buffer.
use Rattle.std.specs.Prelude.{ℕ, ◌≤◌, List, length, take, Option, Some, None, Result, Ok, Err}
use Rattle.mq_packet.specs.declared.connect.Connect.{Connect}
use Rattle.mq_packet.specs.declared.packet.Packet.{Packet}
use Rattle.mq_packet.specs.declared.packet.Packet.TheVariants as packets
use Rattle.mq_decode.specs.declared.fault.DecodeFault.{DecodeFault}
use Rattle.mq_decode.specs.declared.connect.ConnectFields.{ConnectFields}
use Rattle.mq_decode.specs.declared.packet_view.PacketView.{PacketView}
use Rattle.mq_decode.specs.declared.packet_view.PacketView.TheVariants as lent
use Rattle.mq_decode.specs.declared.packet_view.View.{View}
use Rattle.mq_decode.specs.declared.packet_view.View.TheVariants as views
use Rattle.mq_decode.specs.Gives.{EndsWith}
use Rattle.mq_decode.specs.Limits.{Bounds}
use Rattle.mq_decode.specs.Grammar.{ReadsWithin, Faulty, Pending}

-- the CONNECT whose fields these are
abbrev pub connect_of : ConnectFields → Connect
connect_of fields = record { client_id = fields.client_id; clean_session = fields.clean_session; keep_alive = fields.keep_alive; will = fields.will; login = fields.login }

-- The packet behind a view.
abbrev pub packet_of : PacketView → Packet
packet_of (lent.Connect connect) = packets.Connect connect
packet_of (lent.ConnAck answer) = packets.ConnAck answer
packet_of (lent.Publish publish) = packets.Publish publish.publish
packet_of (lent.PubAck id) = packets.PubAck id
packet_of (lent.PubRec id) = packets.PubRec id
packet_of (lent.PubRel id) = packets.PubRel id
packet_of (lent.PubComp id) = packets.PubComp id
packet_of (lent.Subscribe id requests) = packets.Subscribe id requests
packet_of (lent.SubAck id codes) = packets.SubAck id codes
packet_of (lent.Unsubscribe id filters) = packets.Unsubscribe id filters
packet_of (lent.UnsubAck id) = packets.UnsubAck id
packet_of lent.PingReq = packets.PingReq
packet_of lent.PingResp = packets.PingResp
packet_of lent.Disconnect = packets.Disconnect

-- The front of `buffer`: a packet with its size, an incomplete packet, or a fault.
abbrev pub IsView : Bounds → List ℕ → View → Type 0
IsView limits buffer (views.Whole packet size) = (size ≤ length buffer) × ReadsWithin limits (packet_of packet) (take size buffer)
IsView limits buffer views.More = Pending limits buffer
IsView limits buffer (views.Fault fault) = Faulty limits buffer fault.kind fault.place

-- The result of a view.
abbrev pub view_read : View → Result (Option (Packet × ℕ)) DecodeFault
view_read (views.Whole packet size) = Ok (Some (packet_of packet, size))
view_read views.More = Ok None
view_read (views.Fault fault) = Err fault

-- The fields of a PUBLISH are the end of `buffer`.
abbrev pub LiesAtEnd : List ℕ → PacketView → Type 0
LiesAtEnd buffer (lent.Connect connect) = Unit {0}
LiesAtEnd buffer (lent.ConnAck answer) = Unit {0}
LiesAtEnd buffer (lent.Publish publish) = EndsWith buffer publish.fields
LiesAtEnd buffer (lent.PubAck id) = Unit {0}
LiesAtEnd buffer (lent.PubRec id) = Unit {0}
LiesAtEnd buffer (lent.PubRel id) = Unit {0}
LiesAtEnd buffer (lent.PubComp id) = Unit {0}
LiesAtEnd buffer (lent.Subscribe id requests) = Unit {0}
LiesAtEnd buffer (lent.SubAck id codes) = Unit {0}
LiesAtEnd buffer (lent.Unsubscribe id filters) = Unit {0}
LiesAtEnd buffer (lent.UnsubAck id) = Unit {0}
LiesAtEnd buffer lent.PingReq = Unit {0}
LiesAtEnd buffer lent.PingResp = Unit {0}
LiesAtEnd buffer lent.Disconnect = Unit {0}

-- The packet that a view borrows ends with its bytes.
abbrev pub LiesInFront : List ℕ → View → Type 0
LiesInFront buffer (views.Whole packet size) = LiesAtEnd (take size buffer) packet
LiesInFront buffer views.More = Unit {0}
LiesInFront buffer (views.Fault fault) = Unit {0}
