-- What `mqtt sub` prints for a message: the payload, the topic and the payload (`-v`), or a format
-- (`-F`).
use Rattle.std.specs.Prelude.{ℕ, ◌/◌, ◌==◌, ◌&&◌, Bool, true, false, if◌then◌else◌, List, [], ◌∷◌, ◌++◌, length, take, Option, Some, None, codes, decimal}
use Rattle.std.specs.List.{flat_map}
use Rattle.mq_topic.specs.Qos.{qos_number}
use Rattle.mq_packet.specs.Encoding.{bit}
use Rattle.mq_format.specs.declared.field.Layout.{Layout}
use Rattle.mq_format.specs.declared.field.Field.{Field}
use Rattle.mq_format.specs.declared.field.Field.TheVariants as fields
use Rattle.mq_format.specs.declared.format.Format.{Format}
use Rattle.mq_format.specs.declared.moment.Moment.{Moment}
use Rattle.mq_format.specs.declared.piece.Piece.{Piece}
use Rattle.mq_format.specs.declared.piece.Piece.TheVariants as pieces
use Rattle.mq_format.specs.declared.style.Envelope.{Envelope}
use Rattle.mq_format.specs.declared.style.Style.{Style}
use Rattle.mq_format.specs.declared.style.Style.TheVariants as styles
use Rattle.mq_format.specs.Json.{quoted}
use Rattle.mq_format.specs.Layout.{hexadecimal_text, padded, with_zeros}
use Rattle.mq_format.specs.Moment.{instant_text, time_text, unix_text}

-- ---- parts of a message

-- the packet identifier, 0 if there is none
abbrev pub id_number : Option ℕ → ℕ
id_number None = 0
id_number (Some id) = id

-- the front of a text, with at most this many bytes
abbrev pub front : Option ℕ → List ℕ → List ℕ
front None text = text
front (Some most) text = take most text

-- `0` fills up numbers and payloads with zeros, else spaces do
abbrev pub filler : Layout → ℕ
filler layout = if layout.is_zero then 48 else 32

-- A width is also the maximum number of bytes of a payload.
abbrev pub payload_text : Layout → List ℕ → List ℕ
payload_text layout payload =
    padded layout (filler layout) (if layout.width == 0 then payload else take layout.width payload)

-- A width is also the maximum number of digits of a payload.
abbrev pub digits_text : Bool → Layout → List ℕ → List ℕ
digits_text is_upper layout payload =
    if layout.width == 0 then hexadecimal_text is_upper payload
    else padded layout (filler layout) (hexadecimal_text is_upper (take (layout.width / 2) payload))

-- ---- JSON

-- the time with six decimals
abbrev pub stamp_text : Moment → List ℕ
stamp_text moment = instant_text moment ++ (codes "." ++ (with_zeros 6 (moment.nanoseconds / 1000) ++ codes "Z+0000"))

unfoldable pub first_entry : Moment → List ℕ
first_entry moment = codes "{\"tst\":\"" ++ (stamp_text moment ++ codes "\"")

-- a name and a number, or a text
unfoldable pub number_entry : List ℕ → ℕ → List ℕ
number_entry name number = name ++ decimal number

unfoldable pub text_entry : List ℕ → List ℕ → List ℕ
text_entry name text = name ++ quoted text

-- the packet identifier, if there is one
unfoldable pub id_entry : Option ℕ → List ℕ
id_entry None = []
id_entry (Some id) = number_entry (codes ",\"mid\":") id

unfoldable pub head_text : Envelope → List ℕ
head_text envelope =
    first_entry envelope.moment
    ++ (text_entry (codes ",\"topic\":") envelope.message.now.topic
    ++ number_entry (codes ",\"qos\":") (qos_number envelope.message.now.qos))

unfoldable pub middle_text : Envelope → List ℕ
middle_text envelope =
    number_entry (codes ",\"retain\":") (bit envelope.message.now.retain)
    ++ (number_entry (codes ",\"payloadlen\":") (length envelope.message.now.payload) ++ id_entry envelope.id)

unfoldable pub last_entry : List ℕ → List ℕ
last_entry payload = text_entry (codes ",\"payload\":") payload ++ codes "}"

unfoldable pub json_text : Envelope → List ℕ
json_text envelope = head_text envelope ++ (middle_text envelope ++ last_entry envelope.message.now.payload)

-- ---- formats

-- what `%` and a letter print
unfoldable pub field_text : Envelope → Layout → Field → List ℕ
field_text envelope layout fields.Percent = codes "%"
field_text envelope layout fields.Topic = padded layout 32 (front layout.precision envelope.message.now.topic)
field_text envelope layout fields.Payload = payload_text layout envelope.message.now.payload
field_text envelope layout (fields.Hexadecimal is_upper) = digits_text is_upper layout envelope.message.now.payload
field_text envelope layout fields.Qos = decimal (qos_number envelope.message.now.qos)
field_text envelope layout fields.Retain = decimal (bit envelope.message.now.retain)
field_text envelope layout fields.Length = padded layout (filler layout) (decimal (length envelope.message.now.payload))
field_text envelope layout fields.Id = padded layout (filler layout) (decimal (id_number envelope.id))
field_text envelope layout fields.Time =
    padded layout 32 (front layout.precision (instant_text envelope.moment ++ codes "+0000"))
field_text envelope layout fields.Unix = unix_text envelope.moment
field_text envelope layout fields.Json = json_text envelope
field_text envelope layout fields.Nothing = []

unfoldable pub piece_text : Envelope → Piece → List ℕ
piece_text envelope (pieces.Byte byte) = byte ∷ []
piece_text envelope (pieces.Field field layout) = field_text envelope layout field
piece_text envelope (pieces.Time field) = time_text envelope.moment field

-- ---- lines

-- a line end, unless `-N` asks for none
abbrev pub line_end : Bool → List ℕ
line_end has_end = if has_end then 10 ∷ [] else []

-- a payload that is not empty, with the line end; nothing for an empty one
abbrev pub payload_line : Bool → List ℕ → List ℕ
payload_line has_end [] = []
payload_line has_end (byte ∷ rest) = (byte ∷ rest) ++ line_end has_end

-- The topic and the payload, which is `(null)` if it is empty. With `-N` an empty one is nothing.
abbrev pub verbose_line : Bool → List ℕ → List ℕ → List ℕ
verbose_line has_end topic [] =
    if has_end then (topic ++ codes " (null)") ++ line_end true else []
verbose_line has_end topic (byte ∷ rest) =
    (topic ++ (codes " " ++ (byte ∷ rest))) ++ line_end has_end

abbrev pub line_text : Style → Bool → Envelope → List ℕ
line_text styles.Payload has_end envelope = payload_line has_end envelope.message.now.payload
line_text styles.Verbose has_end envelope = verbose_line has_end envelope.message.now.topic envelope.message.now.payload
line_text (styles.Format format) has_end envelope =
    flat_map (piece_text envelope) format.pieces.items ++ line_end has_end
