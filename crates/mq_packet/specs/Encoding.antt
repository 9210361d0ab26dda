-- The encoding of control packets (chapter 3).
use Rattle.std.specs.Prelude.{◌≡◌, ℕ, ◌+◌, ◌*◌, ◌^◌, ◌<◌, Bool, true, false, List, [], ◌∷◌, ◌++◌, length, Option, Some, None, codes}
use Rattle.std.specs.List.{flat_map}
use Rattle.mq_wire.specs.Length.{Length, length_bytes}
use Rattle.mq_wire.specs.Number.{number}
use Rattle.mq_wire.specs.Text.{counted}
use Rattle.mq_topic.specs.Qos.{qos_number}
use Rattle.mq_packet.specs.declared.connack.ConnAck.{ConnAck}
use Rattle.mq_packet.specs.declared.connack.ConnAck.TheVariants.{Accepted, Refused}
use Rattle.mq_packet.specs.declared.connect.Connect.{Connect}
use Rattle.mq_packet.specs.declared.connect.Will.{Will}
use Rattle.mq_packet.specs.declared.connect.Login.{Login}
use Rattle.mq_packet.specs.declared.packet.Request.{Request}
use Rattle.mq_packet.specs.declared.packet.SubAckCode.{SubAckCode}
use Rattle.mq_packet.specs.declared.packet.Packet.{Packet}
use Rattle.mq_packet.specs.declared.packet.Packet.TheVariants as packets
use Rattle.mq_packet.specs.declared.publish.Delivery.{Delivery}
use Rattle.mq_packet.specs.Codes.{refusal_number, code_number}
use Rattle.mq_packet.specs.Publication.{Publication}
use Rattle.mq_packet.specs.Values.{IsPacket}

abbrev pub bit : Bool → ℕ
bit false = 0
bit true = 1

-- ---- CONNECT (3.1)

-- Protocol name and level (3.1.2.1, 3.1.2.2).
abbrev pub protocol : List ℕ
protocol = 0 ∷ 4 ∷ 77 ∷ 81 ∷ 84 ∷ 84 ∷ 4 ∷ []

-- The flags (3.1.2.3): bit 7 user name, 6 password, 5 will retain, 4 and 3 will QoS, 2 will, 1
-- clean session, 0 reserved and 0.
abbrev pub will_flags : Option Will → ℕ
will_flags None = 0
will_flags (Some will) = 4 + 8 * qos_number will.qos + 32 * bit will.retain

abbrev pub password_flag : Option (List ℕ) → ℕ
password_flag None = 0
password_flag (Some password) = 64

abbrev pub login_flags : Option Login → ℕ
login_flags None = 0
login_flags (Some login) = 128 + password_flag login.password

abbrev pub connect_flags : Connect → ℕ
connect_flags connect = 2 * bit connect.clean_session + will_flags connect.will + login_flags connect.login

abbrev pub will_fields : Option Will → List ℕ
will_fields None = []
will_fields (Some will) = counted will.topic ++ counted will.message

abbrev pub password_fields : Option (List ℕ) → List ℕ
password_fields None = []
password_fields (Some password) = counted password

abbrev pub login_fields : Option Login → List ℕ
login_fields None = []
login_fields (Some login) = counted login.name ++ password_fields login.password

-- Protocol name and level, flags and keep-alive (3.1.2.10).
abbrev pub connect_protocol : Connect → List ℕ
connect_protocol connect = protocol ++ (connect_flags connect ∷ number connect.keep_alive)

-- These with the client identifier (3.1.3.1): the fields of every CONNECT.
abbrev pub connect_head : Connect → List ℕ
connect_head connect = connect_protocol connect ++ counted connect.client_id

abbrev pub connect_fields : Connect → List ℕ
connect_fields connect = connect_head connect ++ (will_fields connect.will ++ login_fields connect.login)

-- ---- CONNACK (3.2): Session Present, and the code

abbrev pub connack_fields : ConnAck → List ℕ
connack_fields (Accepted present) = bit present ∷ 0 ∷ []
connack_fields (Refused code) = 0 ∷ refusal_number code ∷ []

-- ---- PUBLISH (3.3)

abbrev pub dup_bit : Option Delivery → ℕ
dup_bit None = 0
dup_bit (Some delivery) = bit delivery.dup

abbrev pub delivery_fields : Option Delivery → List ℕ
delivery_fields None = []
delivery_fields (Some delivery) = number delivery.id

abbrev pub publish_fields : Publication → List ℕ
publish_fields publish = counted publish.message.topic ++ (delivery_fields publish.delivery ++ publish.message.payload)

-- ---- the items of lists (3.8.3, 3.9.3, 3.10.3)

abbrev pub request_fields : Request → List ℕ
request_fields request = counted request.filter ++ qos_number request.qos ∷ []

abbrev pub code_fields : SubAckCode → List ℕ
code_fields code = code_number code ∷ []

-- ---- all packets

-- The packet type in the upper four bits, the flags in the lower four (2.2.1, 2.2.2).
abbrev pub first_byte : Packet → ℕ
first_byte (packets.Connect contents) = 0x10
first_byte (packets.ConnAck contents) = 0x20
first_byte (packets.Publish publish) = 0x30 + 8 * dup_bit publish.delivery + 2 * qos_number publish.message.qos + bit publish.message.retain
first_byte (packets.PubAck id) = 0x40
first_byte (packets.PubRec id) = 0x50
first_byte (packets.PubRel id) = 0x62
first_byte (packets.PubComp id) = 0x70
first_byte (packets.Subscribe id requests) = 0x82
first_byte (packets.SubAck id codes) = 0x90
first_byte (packets.Unsubscribe id filters) = 0xa2
first_byte (packets.UnsubAck id) = 0xb0
first_byte packets.PingReq = 0xc0
first_byte packets.PingResp = 0xd0
first_byte packets.Disconnect = 0xe0

-- The fields behind the fixed header.
abbrev pub fields : Packet → List ℕ
fields (packets.Connect contents) = connect_fields contents
fields (packets.ConnAck contents) = connack_fields contents
fields (packets.Publish publish) = publish_fields publish
fields (packets.PubAck id) = number id
fields (packets.PubRec id) = number id
fields (packets.PubRel id) = number id
fields (packets.PubComp id) = number id
fields (packets.Subscribe id requests) = number id ++ flat_map request_fields requests
fields (packets.SubAck id codes) = number id ++ flat_map code_fields codes
fields (packets.Unsubscribe id filters) = number id ++ flat_map counted filters
fields (packets.UnsubAck id) = number id
fields packets.PingReq = []
fields packets.PingResp = []
fields packets.Disconnect = []

-- `encoded` is the encoding of `value`: the first byte, the remaining length and the fields.
pub record Encodes (value : Packet) (encoded : List ℕ) : Type 0 where
  pub packet : IsPacket value
  pub len : List ℕ
  pub formed : Length (length (fields value)) len
  pub bytes : encoded ≡ first_byte value ∷ len ++ fields value

-- The encoding of a packet.
unfoldable pub encoding : Packet → List ℕ
encoding packet = first_byte packet ∷ length_bytes (length (fields packet)) ++ fields packet

-- The size of a packet whose fields have this size (2.2).
abbrev pub encoded_size : ℕ → ℕ
encoded_size size = 1 + (length (length_bytes size) + size)

-- The encodings of packets, concatenated.
abbrev pub encodings : List Packet → List ℕ
encodings sequence = flat_map encoding sequence

-- `bytes` is the encodings of packets, concatenated.
abbrev pub EncodesAll : List Packet → List ℕ → Type 0
EncodesAll [] bytes = bytes ≡ []
EncodesAll (packet ∷ others) bytes = (first : List ℕ) × (rest : List ℕ) × Encodes packet first × EncodesAll others rest × (bytes ≡ first ++ rest)

-- The laws of encodings.
pub record EncodingLaws : Type 0 where
  -- A packet has exactly one encoding, unless its remaining length would exceed 268,435,455.
  pub exists : (packet : Packet) → IsPacket packet → length (fields packet) < 2 ^ 28 → Encodes packet (encoding packet)
  pub one : (packet : Packet) (bytes : List ℕ) → Encodes packet bytes → bytes ≡ encoding packet
  -- Its size.
  pub size : (packet : Packet) (bytes : List ℕ) → Encodes packet bytes → length bytes ≡ encoded_size (length (fields packet))
  -- Likewise for several packets.
  pub all : (sequence : List Packet) (bytes : List ℕ) → EncodesAll sequence bytes → bytes ≡ encodings sequence
