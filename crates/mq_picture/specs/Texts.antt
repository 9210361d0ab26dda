-- The texts of a diagram.
use Rattle.std.specs.Prelude.{◌≡◌, ℕ, ◌<◌, Bool, true, false, ◌==◌, ◌&&◌, ◌||◌, not, nat_lt, if◌then◌else◌, List, [], ◌∷◌, ◌++◌, length, take, Option, Some, None, codes, decimal}
use Rattle.std.specs.List.{flat_map, list_all}
use Rattle.mq_packet.specs.declared.message.Message.{Message}
use Rattle.mq_end.specs.Codes.{close_code, refusal_code}
use Rattle.mq_packet.specs.Lines.{escaped_byte, hex_of}
use Rattle.mq_picture.specs.declared.entry.Note.{Note}
use Rattle.mq_picture.specs.declared.entry.Note.TheVariants as notes
use Rattle.mq_picture.specs.declared.rows.Arrow.{Arrow}
use Rattle.mq_picture.specs.declared.rows.Fate.{Fate}
use Rattle.mq_picture.specs.declared.rows.Fate.TheVariants as fates
use Rattle.mq_picture.specs.declared.summary.Kind.{Kind}
use Rattle.mq_picture.specs.declared.summary.Kind.TheVariants as kinds
use Rattle.mq_picture.specs.declared.summary.Summary.{Summary}

-- ---- Texts in XML

-- A byte of a text in XML, as an entity if it is `<`, `>`, `&` or `"`. A byte outside 21 to 7e
-- (hexadecimal), and `%`, is `%` and two digits.
abbrev pub xml_byte : ℕ → List ℕ
xml_byte byte =
    if byte == 60 then codes "&lt;"
    else if byte == 62 then codes "&gt;"
    else if byte == 38 then codes "&amp;"
    else if byte == 34 then codes "&quot;"
    else escaped_byte byte

abbrev pub xml_text : List ℕ → List ℕ
xml_text text = flat_map xml_byte text

-- not `<`, `>`, `&` or `"`
abbrev pub is_plain : ℕ → Bool
is_plain byte = not (byte == 60 || byte == 62 || byte == 38 || byte == 34)

abbrev pub same_bytes : List ℕ → List ℕ → Bool
same_bytes [] [] = true
same_bytes (byte ∷ bytes) (other ∷ others) = byte == other && same_bytes bytes others
same_bytes [] (other ∷ others) = false
same_bytes (byte ∷ bytes) [] = false

abbrev pub is_entity : List ℕ → Bool
is_entity text = same_bytes text (codes "&lt;") || same_bytes text (codes "&gt;") || same_bytes text (codes "&amp;") || same_bytes text (codes "&quot;")

-- Each byte of a text is written as an entity, or without any of the four.
abbrev pub EscapeLaw : Type 0
EscapeLaw = (byte : ℕ) → byte < 256 → (list_all is_plain (xml_byte byte) || is_entity (xml_byte byte)) ≡ true

-- ---- Notes

-- two dots after the first bytes of a longer list
abbrev pub dots : ℕ → List ℕ → List ℕ
dots most bytes = if nat_lt most (length bytes) then codes ".." else []

abbrev pub short_topic : List ℕ → List ℕ
short_topic topic = xml_text (take 16 topic) ++ dots 16 topic

abbrev pub short_payload : List ℕ → List ℕ
short_payload payload = hex_of (take 4 payload) ++ dots 4 payload

abbrev pub delivered_text : Message → List ℕ
delivered_text message = codes "delivered: " ++ (short_topic message.topic ++ (codes " " ++ short_payload message.payload))

abbrev pub accepted_text : Option ℕ → List ℕ
accepted_text (Some id) = codes "message " ++ (decimal id ++ codes " accepted")
accepted_text None = codes "message accepted"

abbrev pub note_text : Note → List ℕ
note_text (notes.Up true) = codes "connected, session present"
note_text (notes.Up false) = codes "connected, new session"
note_text (notes.Delivered message) = delivered_text message
note_text (notes.Accepted id) = accepted_text id
note_text (notes.Refused why) = codes "refused " ++ refusal_code why
note_text (notes.Closed why) = codes "closed " ++ close_code why
note_text notes.Dropped = codes "connection lost"
note_text notes.Restarted = codes "restarted"
note_text notes.Pong = codes "answer to PINGREQ"

-- ---- Arrows

-- the name of a packet (2.2.1)
abbrev pub kind_text : Kind → List ℕ
kind_text kinds.Connect = codes "CONNECT"
kind_text kinds.ConnAck = codes "CONNACK"
kind_text kinds.Publish = codes "PUBLISH"
kind_text kinds.PubAck = codes "PUBACK"
kind_text kinds.PubRec = codes "PUBREC"
kind_text kinds.PubRel = codes "PUBREL"
kind_text kinds.PubComp = codes "PUBCOMP"
kind_text kinds.Subscribe = codes "SUBSCRIBE"
kind_text kinds.SubAck = codes "SUBACK"
kind_text kinds.Unsubscribe = codes "UNSUBSCRIBE"
kind_text kinds.UnsubAck = codes "UNSUBACK"
kind_text kinds.PingReq = codes "PINGREQ"
kind_text kinds.PingResp = codes "PINGRESP"
kind_text kinds.Disconnect = codes "DISCONNECT"

abbrev pub id_text : Option ℕ → List ℕ
id_text (Some id) = codes " " ++ decimal id
id_text None = []

abbrev pub dup_text : Bool → List ℕ
dup_text true = codes " DUP"
dup_text false = []

abbrev pub summary_text : Summary → List ℕ
summary_text summary = kind_text summary.kind ++ (id_text summary.id ++ dup_text summary.dup)

-- how the way of a packet ends
abbrev pub fate_text : Fate → ℕ → ℕ → List ℕ
fate_text fates.Arrived arrived size = []
fate_text fates.Discarded arrived size = codes ": not connected"
fate_text fates.Cut arrived size = codes ": " ++ (decimal arrived ++ (codes " of " ++ (decimal size ++ codes " bytes")))
fate_text fates.InFlight arrived size = codes ": " ++ (decimal arrived ++ (codes " of " ++ (decimal size ++ codes " bytes so far")))

abbrev pub arrow_text : Arrow → List ℕ
arrow_text arrow = summary_text arrow.packet ++ fate_text arrow.fate arrow.arrived arrow.packet.size
