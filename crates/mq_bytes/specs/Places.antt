-- The fields of a packet in a buffer (chapter 3).
use Rattle.std.specs.Prelude.{◌≡◌, ℕ, ◌≤◌, Bool, true, false, List, ◌++◌, length, take, Option, Some, None}
use Rattle.std.specs.List.{flat_map}
use Rattle.mq_wire.specs.Text.{counted}
use Rattle.mq_topic.specs.Qos.{qos_number}
use Rattle.mq_packet.specs.declared.connack.ConnAck.{ConnAck}
use Rattle.mq_packet.specs.declared.connack.ConnAck.TheVariants.{Accepted, Refused}
use Rattle.mq_packet.specs.declared.connect.Connect.{Connect}
use Rattle.mq_packet.specs.declared.connect.Login.{Login}
use Rattle.mq_packet.specs.declared.connect.Will.{Will}
use Rattle.mq_packet.specs.declared.packet.Packet.{Packet}
use Rattle.mq_packet.specs.declared.packet.Packet.TheVariants as packets
use Rattle.mq_packet.specs.declared.publish.Delivery.{Delivery}
use Rattle.mq_packet.specs.Codes.{refusal_number}
use Rattle.mq_packet.specs.Encoding.{code_fields, request_fields}
use Rattle.mq_packet.specs.Publication.{Publication}
use Rattle.mq_decode.specs.Grammar.{Faulty, Pending, ReadsWithin}
use Rattle.mq_decode.specs.Limits.{Bounds}
use Rattle.mq_bytes.specs.declared.places.Field.{Field}
use Rattle.mq_bytes.specs.declared.places.Front.{Front}
use Rattle.mq_bytes.specs.declared.places.Front.TheVariants as fronts
use Rattle.mq_bytes.specs.declared.places.PacketFields.{PacketFields}

-- The bytes are in the buffer from index `at` on: `at` bytes are before them.
pub record Lies (buffer : List ℕ) (at : ℕ) (bytes : List ℕ) : Type 0 where
  pub before : List ℕ
  pub after : List ℕ
  pub parts : buffer ≡ before ++ (bytes ++ after)
  pub here : at ≡ length before

-- The bytes are this part of the buffer.
abbrev pub LiesAt : List ℕ → Field → List ℕ → Type 0
LiesAt buffer place bytes = (place.size ≡ length bytes) × Lies buffer place.at bytes

-- The identifier and DUP of a PUBLISH (3.3.1.1, 3.3.2.2), 0 and false with QoS 0.
abbrev pub identifier_of : Option Delivery → ℕ
identifier_of None = 0
identifier_of (Some delivery) = delivery.id

abbrev pub dup_of : Option Delivery → Bool
dup_of None = false
dup_of (Some delivery) = delivery.dup

-- The will of a CONNECT (3.1.2.5 to 3.1.2.7, 3.1.3.2, 3.1.3.3): whether there is one, its topic,
-- message, QoS and Will Retain.
abbrev pub ShowsWill : List ℕ → Bool → Field → Field → ℕ → Bool → Option Will → Type 0
ShowsWill buffer there topic message qos retain None = there ≡ false
ShowsWill buffer there topic message qos retain (Some will) =
    (there ≡ true) × LiesAt buffer topic will.topic × LiesAt buffer message will.message
    × (qos ≡ qos_number will.qos) × (retain ≡ will.retain)

-- The password (3.1.3.5): whether there is one, and its place.
abbrev pub ShowsPassword : List ℕ → Bool → Field → Option (List ℕ) → Type 0
ShowsPassword buffer there place None = there ≡ false
ShowsPassword buffer there place (Some bytes) = (there ≡ true) × LiesAt buffer place bytes

-- The user name (3.1.3.4), and the password.
abbrev pub ShowsLogin : List ℕ → Bool → Field → Bool → Field → Option Login → Type 0
ShowsLogin buffer there name has_password password None = (there ≡ false) × (has_password ≡ false)
ShowsLogin buffer there name has_password password (Some login) =
    (there ≡ true) × LiesAt buffer name login.name × ShowsPassword buffer has_password password login.password

-- CONNECT (3.1).
abbrev pub ShowsConnect : List ℕ → PacketFields → Connect → Type 0
ShowsConnect buffer fields connect =
    (fields.kind ≡ 1) × (fields.clean_session ≡ connect.clean_session) × (fields.keep_alive ≡ connect.keep_alive)
    × LiesAt buffer fields.client_id connect.client_id
    × ShowsWill buffer fields.has_will fields.topic fields.payload fields.qos fields.retain connect.will
    × ShowsLogin buffer fields.has_user_name fields.user_name fields.has_password fields.password connect.login

-- CONNACK (3.2).
abbrev pub ShowsConnAck : PacketFields → ConnAck → Type 0
ShowsConnAck fields (Accepted present) =
    (fields.kind ≡ 2) × (fields.session_present ≡ present) × (fields.code ≡ 0)
ShowsConnAck fields (Refused code) =
    (fields.kind ≡ 2) × (fields.session_present ≡ false) × (fields.code ≡ refusal_number code)

-- PUBLISH (3.3).
abbrev pub ShowsPublish : List ℕ → PacketFields → Publication → Type 0
ShowsPublish buffer fields publication =
    (fields.kind ≡ 3) × LiesAt buffer fields.topic publication.message.topic × LiesAt buffer fields.payload publication.message.payload
    × (fields.qos ≡ qos_number publication.message.qos) × (fields.retain ≡ publication.message.retain)
    × (fields.dup ≡ dup_of publication.delivery) × (fields.id ≡ identifier_of publication.delivery)

-- A packet that has only an identifier, or nothing.
abbrev pub ShowsNumber : PacketFields → ℕ → ℕ → Type 0
ShowsNumber fields kind id = (fields.kind ≡ kind) × (fields.id ≡ id)

-- An identifier and a list, as it is encoded (3.8.3, 3.9.3, 3.10.3).
abbrev pub ShowsList : List ℕ → PacketFields → ℕ → ℕ → List ℕ → Type 0
ShowsList buffer fields kind id items = ShowsNumber fields kind id × LiesAt buffer fields.list items

-- The fields show the packet at the front of the buffer.
abbrev pub Shows : List ℕ → PacketFields → Packet → Type 0
Shows buffer fields (packets.Connect connect) = ShowsConnect buffer fields connect
Shows buffer fields (packets.ConnAck answer) = ShowsConnAck fields answer
Shows buffer fields (packets.Publish publication) = ShowsPublish buffer fields publication
Shows buffer fields (packets.PubAck id) = ShowsNumber fields 4 id
Shows buffer fields (packets.PubRec id) = ShowsNumber fields 5 id
Shows buffer fields (packets.PubRel id) = ShowsNumber fields 6 id
Shows buffer fields (packets.PubComp id) = ShowsNumber fields 7 id
Shows buffer fields (packets.Subscribe id requests) = ShowsList buffer fields 8 id (flat_map request_fields requests)
Shows buffer fields (packets.SubAck id codes) = ShowsList buffer fields 9 id (flat_map code_fields codes)
Shows buffer fields (packets.Unsubscribe id filters) = ShowsList buffer fields 10 id (flat_map counted filters)
Shows buffer fields (packets.UnsubAck id) = ShowsNumber fields 11 id
Shows buffer fields packets.PingReq = ShowsNumber fields 12 0
Shows buffer fields packets.PingResp = ShowsNumber fields 13 0
Shows buffer fields packets.Disconnect = ShowsNumber fields 14 0

-- The front of the buffer: a packet and its fields, an incomplete packet, or a fault.
abbrev pub IsLocated : Bounds → List ℕ → Front → Type 0
IsLocated limits buffer (fronts.Whole fields) =
    (packet : Packet) × (fields.size ≤ length buffer) × ReadsWithin limits packet (take fields.size buffer) × Shows buffer fields packet
IsLocated limits buffer fronts.More = Pending limits buffer
IsLocated limits buffer (fronts.Fault fault) = Faulty limits buffer fault.kind fault.place
