-- The parts of a packet that a diagram shows.
use Rattle.std.specs.Prelude.{ℕ, Bool, false, Option, None, Some}
use Rattle.mq_packet.specs.declared.packet.Packet.{Packet}
use Rattle.mq_packet.specs.declared.packet.Packet.TheVariants as packets
use Rattle.mq_packet.specs.declared.publish.Delivery.{Delivery}
use Rattle.mq_picture.specs.declared.summary.Kind.{Kind}
use Rattle.mq_picture.specs.declared.summary.Kind.TheVariants as kinds

-- The type of a packet (2.2.1).
abbrev pub kind_of : Packet → Kind
kind_of (packets.Connect connect) = kinds.Connect
kind_of (packets.ConnAck answer) = kinds.ConnAck
kind_of (packets.Publish publish) = kinds.Publish
kind_of (packets.PubAck id) = kinds.PubAck
kind_of (packets.PubRec id) = kinds.PubRec
kind_of (packets.PubRel id) = kinds.PubRel
kind_of (packets.PubComp id) = kinds.PubComp
kind_of (packets.Subscribe id requests) = kinds.Subscribe
kind_of (packets.SubAck id codes) = kinds.SubAck
kind_of (packets.Unsubscribe id filters) = kinds.Unsubscribe
kind_of (packets.UnsubAck id) = kinds.UnsubAck
kind_of packets.PingReq = kinds.PingReq
kind_of packets.PingResp = kinds.PingResp
kind_of packets.Disconnect = kinds.Disconnect

-- the packet identifier of a PUBLISH, if it has one
abbrev pub delivery_id : Option Delivery → Option ℕ
delivery_id None = None
delivery_id (Some delivery) = Some delivery.id

-- whether a PUBLISH may have come before (3.3.1.1)
abbrev pub delivery_dup : Option Delivery → Bool
delivery_dup None = false
delivery_dup (Some delivery) = delivery.dup

-- The packet identifier (2.3.1).
abbrev pub packet_id : Packet → Option ℕ
packet_id (packets.Connect connect) = None
packet_id (packets.ConnAck answer) = None
packet_id (packets.Publish publish) = delivery_id publish.delivery
packet_id (packets.PubAck id) = Some id
packet_id (packets.PubRec id) = Some id
packet_id (packets.PubRel id) = Some id
packet_id (packets.PubComp id) = Some id
packet_id (packets.Subscribe id requests) = Some id
packet_id (packets.SubAck id codes) = Some id
packet_id (packets.Unsubscribe id filters) = Some id
packet_id (packets.UnsubAck id) = Some id
packet_id packets.PingReq = None
packet_id packets.PingResp = None
packet_id packets.Disconnect = None

-- DUP, which only a PUBLISH has.
abbrev pub packet_dup : Packet → Bool
packet_dup (packets.Publish publish) = delivery_dup publish.delivery
packet_dup packet = false
