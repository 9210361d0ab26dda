-- The values that are control packets (chapter 3).
use Rattle.std.specs.Prelude.{◌≡◌, ℕ, ◌<◌, ◌^◌, true, List, length, IfSome}
use Rattle.std.specs.List.{AllByRecursion}
use Rattle.mq_wire.specs.Text.{IsText}
use Rattle.mq_topic.specs.Topic.{IsTopicName, IsTopicFilter}
use Rattle.mq_packet.specs.declared.message.Message.{Message}
use Rattle.mq_packet.specs.declared.connect.Connect.{Connect}
use Rattle.mq_packet.specs.declared.connect.Will.{Will}
use Rattle.mq_packet.specs.declared.connect.Login.{Login}
use Rattle.mq_packet.specs.declared.packet.Request.{Request}
use Rattle.mq_packet.specs.declared.packet.Packet.{Packet}
use Rattle.mq_packet.specs.declared.packet.Packet.TheVariants as packets
use Rattle.mq_packet.specs.Identifier.{IsIdentifier}
use Rattle.mq_packet.specs.Publication.{Publication, fits_delivery}

-- Bytes with a two-byte length.
abbrev pub IsBinary : List ℕ → Type 0
IsBinary bytes = length bytes < 65536

-- A message (3.3): a topic name, and a payload that fits into a packet.
pub record IsMessage (message : Message) : Type 0 where
  pub topic : IsTopicName message.topic
  pub payload : length message.payload < 2 ^ 28

-- PUBLISH (3.3): an identifier exactly if the QoS is 1 or 2.
pub record IsPublication (publish : Publication) : Type 0 where
  pub message : IsMessage publish.message
  pub fits : fits_delivery publish.message.qos publish.delivery ≡ true
  pub identifier : IfSome publish.delivery (λ delivery. IsIdentifier delivery.id)

-- The parts of CONNECT (3.1.3).
pub record IsWill (will : Will) : Type 0 where
  pub topic : IsTopicName will.topic
  pub message : IsBinary will.message

pub record IsLogin (login : Login) : Type 0 where
  pub name : IsText login.name
  pub password : IfSome login.password IsBinary

pub record IsConnect (connect : Connect) : Type 0 where
  pub client_id : IsText connect.client_id
  pub keep_alive : connect.keep_alive < 65536
  pub will : IfSome connect.will IsWill
  pub login : IfSome connect.login IsLogin

-- An item of SUBSCRIBE (3.8.3).
abbrev pub IsRequest : Request → Type 0
IsRequest request = IsTopicFilter request.filter

-- An identifier and a list of at least one item (3.8, 3.9, 3.10).
pub record IsList {A : Type 0} (IsItem : A → Type 0) (id : ℕ) (items : List A) : Type 0 where
  pub identifier : IsIdentifier id
  pub item : 0 < length items
  pub each : AllByRecursion IsItem items

abbrev pub Always : {A : Type 0} → A → Type 0
Always item = Unit {0}

abbrev pub IsPacket : Packet → Type 0
IsPacket (packets.Connect contents) = IsConnect contents
IsPacket (packets.ConnAck contents) = Unit {0}
IsPacket (packets.Publish publish) = IsPublication publish
IsPacket (packets.PubAck id) = IsIdentifier id
IsPacket (packets.PubRec id) = IsIdentifier id
IsPacket (packets.PubRel id) = IsIdentifier id
IsPacket (packets.PubComp id) = IsIdentifier id
IsPacket (packets.Subscribe id requests) = IsList IsRequest id requests
IsPacket (packets.SubAck id codes) = IsList Always id codes
IsPacket (packets.Unsubscribe id filters) = IsList IsTopicFilter id filters
IsPacket (packets.UnsubAck id) = IsIdentifier id
IsPacket packets.PingReq = Unit {0}
IsPacket packets.PingResp = Unit {0}
IsPacket packets.Disconnect = Unit {0}
