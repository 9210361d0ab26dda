-- Packets as lines of text, without the line's end.
use Rattle.std.specs.Prelude.{ℕ, Bool, false, ◌/◌, ◌%◌, ◌==◌, ◌&&◌, not, nat_le, if◌then◌else◌, List, [], ◌∷◌, ◌++◌, Option, Some, None, codes, decimal}
use Rattle.std.specs.List.{flat_map}
use Rattle.std.specs.Fmt.{digits}
use Rattle.std.specs.Io.KnownBytes.{Appends}
use Rattle.mq_topic.specs.Qos.{qos_number}
use Rattle.mq_packet.specs.declared.connack.ConnAck.{ConnAck}
use Rattle.mq_packet.specs.declared.connack.ConnAck.TheVariants.{Accepted, Refused}
use Rattle.mq_packet.specs.declared.connect.Connect.{Connect}
use Rattle.mq_packet.specs.declared.connect.Will.{Will}
use Rattle.mq_packet.specs.declared.connect.Login.{Login}
use Rattle.mq_packet.specs.declared.packet.Request.{Request}
use Rattle.mq_packet.specs.declared.packet.SubAckCode.{SubAckCode}
use Rattle.mq_packet.specs.declared.packet.Packet.{Packet}
use Rattle.mq_packet.specs.declared.packet.Packet.TheVariants as packets
use Rattle.mq_packet.specs.declared.publish.Delivery.{Delivery}
use Rattle.mq_packet.specs.Codes.{refusal_number, code_number}
use Rattle.mq_packet.specs.Publication.{Publication}
use Rattle.mq_packet.specs.Encoding.{bit}

-- ---- bytes and texts

-- two hexadecimal digits, in lower case
abbrev pub byte_digits : ℕ → List ℕ
byte_digits byte = digits 16 false (byte / 16) ++ digits 16 false (byte % 16)

abbrev pub hex_of : List ℕ → List ℕ
hex_of bytes = flat_map byte_digits bytes

-- a byte of a text: 21 to 7e (hexadecimal) as it is, but `%`; that, and any other, as `%` and two
-- digits
abbrev pub escaped_byte : ℕ → List ℕ
escaped_byte byte = if nat_le 33 byte && nat_le byte 126 && not (byte == 37) then byte ∷ [] else codes "%" ++ byte_digits byte

abbrev pub escaped : List ℕ → List ℕ
escaped text = flat_map escaped_byte text

-- a truth value is 0 or 1
abbrev pub truth : Bool → List ℕ
truth value = decimal (bit value)

-- ---- CONNECT and CONNACK (3.1, 3.2)

abbrev pub will_text : Option Will → List ℕ
will_text None = []
will_text (Some will) =
    codes " will=" ++ (escaped will.topic
    ++ (codes " wqos=" ++ (decimal (qos_number will.qos)
    ++ (codes " wretain=" ++ (truth will.retain
    ++ (codes " wmsg=" ++ hex_of will.message))))))

abbrev pub password_text : Option (List ℕ) → List ℕ
password_text None = []
password_text (Some password) = codes " pass=" ++ hex_of password

abbrev pub login_text : Option Login → List ℕ
login_text None = []
login_text (Some login) = codes " user=" ++ (escaped login.name ++ password_text login.password)

abbrev pub connect_text : Connect → List ℕ
connect_text connect =
    codes "CONNECT id=" ++ (escaped connect.client_id
    ++ (codes " clean=" ++ (truth connect.clean_session
    ++ (codes " keep=" ++ (decimal connect.keep_alive
    ++ (will_text connect.will ++ login_text connect.login))))))

abbrev pub connack_text : ConnAck → List ℕ
connack_text (Accepted present) = codes "CONNACK session=" ++ (truth present ++ codes " code=0")
connack_text (Refused refusal) = codes "CONNACK session=0 code=" ++ decimal (refusal_number refusal)

-- ---- PUBLISH (3.3)

abbrev pub is_dup : Option Delivery → Bool
is_dup None = false
is_dup (Some delivery) = delivery.dup

abbrev pub delivery_text : Option Delivery → List ℕ
delivery_text None = []
delivery_text (Some delivery) = codes " id=" ++ decimal delivery.id

abbrev pub publish_text : Publication → List ℕ
publish_text publish =
    codes "PUBLISH topic=" ++ (escaped publish.message.topic
    ++ (codes " qos=" ++ (decimal (qos_number publish.message.qos)
    ++ (codes " dup=" ++ (truth (is_dup publish.delivery)
    ++ (codes " retain=" ++ (truth publish.message.retain
    ++ (delivery_text publish.delivery
    ++ (codes " payload=" ++ hex_of publish.message.payload)))))))))

-- ---- packets with an identifier, and lists (3.4 to 3.11)

abbrev pub identified : List ℕ → ℕ → List ℕ
identified name id = name ++ (codes " id=" ++ decimal id)

abbrev pub request_text : Request → List ℕ
request_text request = codes " " ++ (escaped request.filter ++ (codes ":" ++ decimal (qos_number request.qos)))

abbrev pub code_text : SubAckCode → List ℕ
code_text code = codes " " ++ decimal (code_number code)

abbrev pub filter_text : List ℕ → List ℕ
filter_text filter = codes " " ++ escaped filter

-- ---- all packets

abbrev pub packet_text : Packet → List ℕ
packet_text (packets.Connect contents) = connect_text contents
packet_text (packets.ConnAck contents) = connack_text contents
packet_text (packets.Publish publish) = publish_text publish
packet_text (packets.PubAck id) = identified (codes "PUBACK") id
packet_text (packets.PubRec id) = identified (codes "PUBREC") id
packet_text (packets.PubRel id) = identified (codes "PUBREL") id
packet_text (packets.PubComp id) = identified (codes "PUBCOMP") id
packet_text (packets.Subscribe id requests) = identified (codes "SUBSCRIBE") id ++ flat_map request_text requests
packet_text (packets.SubAck id codes_of) = identified (codes "SUBACK") id ++ flat_map code_text codes_of
packet_text (packets.Unsubscribe id filters) = identified (codes "UNSUBSCRIBE") id ++ flat_map filter_text filters
packet_text (packets.UnsubAck id) = identified (codes "UNSUBACK") id
packet_text packets.PingReq = codes "PINGREQ"
packet_text packets.PingResp = codes "PINGRESP"
packet_text packets.Disconnect = codes "DISCONNECT"

-- ---- any

-- A text with this property was appended to the writer's bytes, if they are known.
abbrev pub Prints : Option (List ℕ) → Option (List ℕ) → (List ℕ → Type 0) → Type 0
Prints old new P = (text : List ℕ) × Appends old new text × P text
