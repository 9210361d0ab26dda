-- The fields of each type of packet in order (chapter 3), and the first invalid one.
use Rattle.std.specs.Prelude.{◌≡◌, ℕ, zero, suc, ◌+◌, ◌*◌, ◌<◌, Bool, true, false, List, [], ◌∷◌, ◌++◌, length, Option, Some, None, Ok, ◌⊎◌, nat_lt, if◌then◌else◌}
use Rattle.std.specs.Str.{is_utf8}
use Rattle.mq_wire.specs.Bytes.{AreBytes}
use Rattle.mq_wire.specs.Length.{LengthUnder}
use Rattle.mq_wire.specs.Number.{number}
use Rattle.mq_wire.specs.Text.{Text, counted, has_nul}
use Rattle.mq_wire.specs.TextReading.{text_bytes, text_end}
use Rattle.mq_topic.specs.declared.qos.Qos.{Qos}
use Rattle.mq_topic.specs.declared.qos.Qos.TheVariants.{Q0, Q1, Q2}
use Rattle.mq_topic.specs.Qos.{qos_number}
use Rattle.mq_topic.specs.Topic.{IsTopicName, IsTopicFilter}
use Rattle.mq_packet.specs.declared.connack.RefusalCode.{RefusalCode}
use Rattle.mq_packet.specs.declared.packet.SubAckCode.{SubAckCode}
use Rattle.mq_packet.specs.Codes.{refusal_number, code_number}
use Rattle.mq_packet.specs.Identifier.{IsIdentifier}
use Rattle.mq_packet.specs.Encoding.{bit}
use Rattle.mq_packet.specs.Values.{IsBinary}
use Rattle.mq_decode.specs.declared.fault.FaultKind.{FaultKind}
use Rattle.mq_decode.specs.declared.fault.FaultKind.TheVariants.{PastEnd, NotUtf8, Nul, ProtocolName, ProtocolLevel, ForbiddenFlags, NotTopicName, NotTopicFilter, ZeroIdentifier, ForbiddenCode, EmptyList, BytesLeft}
use Rattle.mq_decode.specs.declared.flags.ConnectFlags.{ConnectFlags}
use Rattle.mq_decode.specs.declared.flags.WillFlags.{WillFlags}
use Rattle.mq_decode.specs.declared.kind.Kind.{Kind}
use Rattle.mq_decode.specs.declared.kind.Kind.TheVariants as kinds
use Rattle.mq_decode.specs.Grammar.{FieldFault}
use Rattle.mq_decode.specs.Kind.{kind_at}
use Rattle.mq_decode.specs.Limits.{Bounds}

-- the kinds of fields
pub data Field : Type 0 where
  -- a two-byte number, a packet identifier, a text, a topic name, a topic filter, a binary
  Number : Field
  Identifier : Field
  AText : Field
  Name : Field
  Filter : Field
  Binary : Field
  -- of CONNECT: the protocol's name and level, and these flags
  Protocol : Field
  Level : Field
  Flags : ConnectFlags → Field
  -- CONNACK: Session Present with this value, and a return code next to it.
  Present : Bool → Field
  Returned : Bool → Field
  -- of SUBSCRIBE and SUBACK: a quality of service that is asked for, a code
  Requested : Field
  Granted : Field
  -- the payload of a PUBLISH, and the end of any other packet
  Payload : Field
  End : Field

-- the byte of flags (3.1.2.3): bit 7 user name, 6 password, 5 will retain, 4 and 3 will quality of
-- service, 2 will, 1 clean session, 0 always 0
abbrev pub will_bits : Option WillFlags → ℕ
will_bits None = 0
will_bits (Some will) = 4 + 8 * qos_number will.qos + 32 * bit will.retain

abbrev pub login_bits : Option Bool → ℕ
login_bits None = 0
login_bits (Some password) = 128 + 64 * bit password

abbrev pub flags_byte : ConnectFlags → ℕ
flags_byte flags = 2 * bit flags.clean_session + will_bits flags.will + login_bits flags.password

-- A return code (3.2.2.3): 0, or that of a refusal if Session Present is 0.
abbrev pub IsReturned : Bool → List ℕ → Type 0
IsReturned false bytes = (bytes ≡ 0 ∷ []) ⊎ ((code : RefusalCode) × (bytes ≡ refusal_number code ∷ []))
IsReturned true bytes = bytes ≡ 0 ∷ []

-- `bytes` is a field of this kind.
abbrev pub IsField : Field → List ℕ → Type 0
IsField Number bytes = (value : ℕ) × (value < 65536) × (bytes ≡ number value)
IsField Identifier bytes = (id : ℕ) × IsIdentifier id × (bytes ≡ number id)
IsField AText bytes = (contents : List ℕ) × Text contents bytes
IsField Name bytes = (contents : List ℕ) × IsTopicName contents × (bytes ≡ counted contents)
IsField Filter bytes = (contents : List ℕ) × IsTopicFilter contents × (bytes ≡ counted contents)
IsField Binary bytes = (contents : List ℕ) × IsBinary contents × (bytes ≡ counted contents)
IsField Protocol bytes = bytes ≡ counted (77 ∷ 81 ∷ 84 ∷ 84 ∷ [])
IsField Level bytes = bytes ≡ 4 ∷ []
IsField (Flags flags) bytes = bytes ≡ flags_byte flags ∷ []
IsField (Present present) bytes = bytes ≡ bit present ∷ []
IsField (Returned present) bytes = IsReturned present bytes
IsField Requested bytes = (qos : Qos) × (bytes ≡ qos_number qos ∷ [])
IsField Granted bytes = (code : SubAckCode) × (bytes ≡ code_number code ∷ [])
IsField Payload bytes = Unit {0}
IsField End bytes = bytes ≡ []

-- `buffer` begins with such a field. The end is such a field only if nothing is left.
abbrev pub Begins : Field → List ℕ → Type 0
Begins field buffer = (front : List ℕ) × (rest : List ℕ) × IsField field front × (buffer ≡ front ++ rest)

abbrev pub Stands : Field → List ℕ → Type 0
Stands Number buffer = Begins Number buffer
Stands Identifier buffer = Begins Identifier buffer
Stands AText buffer = Begins AText buffer
Stands Name buffer = Begins Name buffer
Stands Filter buffer = Begins Filter buffer
Stands Binary buffer = Begins Binary buffer
Stands Protocol buffer = Begins Protocol buffer
Stands Level buffer = Begins Level buffer
Stands (Flags flags) buffer = Begins (Flags flags) buffer
Stands (Present present) buffer = Begins (Present present) buffer
Stands (Returned present) buffer = Begins (Returned present) buffer
Stands Requested buffer = Begins Requested buffer
Stands Granted buffer = Begins Granted buffer
Stands Payload buffer = Begins Payload buffer
Stands End buffer = buffer ≡ []

-- `bytes` is fields of these kinds, one after another.
abbrev pub Laid : List Field → List ℕ → Type 0
Laid [] bytes = bytes ≡ []
Laid (field ∷ more) bytes = (first : List ℕ) × (rest : List ℕ) × IsField field first × Laid more rest × (bytes ≡ first ++ rest)

-- The will and the login, if the flags announce them (3.1.3).
abbrev pub will_layout : Option WillFlags → List Field
will_layout None = []
will_layout (Some will) = Name ∷ Binary ∷ []

abbrev pub login_layout : Option Bool → List Field
login_layout None = []
login_layout (Some false) = AText ∷ []
login_layout (Some true) = AText ∷ Binary ∷ []

-- keep-alive, client identifier, will, user name, password
abbrev pub after_flags : ConnectFlags → List Field
after_flags flags = Number ∷ AText ∷ (will_layout flags.will ++ (login_layout flags.password ++ End ∷ []))

-- the identifier of a PUBLISH (3.3.2.2)
abbrev pub delivery_layout : Qos → List Field
delivery_layout Q0 = []
delivery_layout Q1 = Identifier ∷ []
delivery_layout Q2 = Identifier ∷ []

-- This many items, then the end.
abbrev pub repeated : List Field → ℕ → List Field
repeated item zero = End ∷ []
repeated item (suc count) = item ++ repeated item count

-- an identifier, and at least one item (3.8, 3.9, 3.10)
abbrev pub IsListLayout : List Field → List Field → Type 0
IsListLayout item fields = (count : ℕ) × (fields ≡ Identifier ∷ (item ++ repeated item count))

-- the fields of a packet of this kind, in their order
abbrev pub Layout : Kind → List Field → Type 0
Layout kinds.Connect fields = (flags : ConnectFlags) × (fields ≡ Protocol ∷ Level ∷ Flags flags ∷ after_flags flags)
Layout kinds.ConnAck fields = (present : Bool) × (fields ≡ Present present ∷ Returned present ∷ End ∷ [])
Layout (kinds.Publish flags) fields = fields ≡ Name ∷ (delivery_layout flags.qos ++ Payload ∷ [])
Layout kinds.PubAck fields = fields ≡ Identifier ∷ End ∷ []
Layout kinds.PubRec fields = fields ≡ Identifier ∷ End ∷ []
Layout kinds.PubRel fields = fields ≡ Identifier ∷ End ∷ []
Layout kinds.PubComp fields = fields ≡ Identifier ∷ End ∷ []
Layout kinds.Subscribe fields = IsListLayout (Filter ∷ Requested ∷ []) fields
Layout kinds.SubAck fields = IsListLayout (Granted ∷ []) fields
Layout kinds.Unsubscribe fields = IsListLayout (Filter ∷ []) fields
Layout kinds.UnsubAck fields = fields ≡ Identifier ∷ End ∷ []
Layout kinds.PingReq fields = fields ≡ End ∷ []
Layout kinds.PingResp fields = fields ≡ End ∷ []
Layout kinds.Disconnect fields = fields ≡ End ∷ []

-- ---- The kind of a field's fault

-- The fault of a text at the front of these bytes: it extends past the end, it is not UTF-8, it
-- contains U+0000; otherwise this one.
abbrev pub text_fault_or : FaultKind → List ℕ → FaultKind
text_fault_or own after =
    if nat_lt (length after) 2 then PastEnd else
    (if nat_lt (length after) (text_end after 0) then PastEnd else
    (if is_utf8 (text_bytes after 0) then (if has_nul (text_bytes after 0) then Nul else own) else NotUtf8))

-- The fault of a field of one byte: the byte is missing; otherwise this one.
abbrev pub byte_fault_or : FaultKind → List ℕ → FaultKind
byte_fault_or own [] = PastEnd
byte_fault_or own (byte ∷ after) = own

-- The fault of the first field of an item: the list has no item; otherwise this one.
abbrev pub item_fault_or : FaultKind → List ℕ → FaultKind
item_fault_or own [] = EmptyList
item_fault_or own (byte ∷ after) = own

-- The fault of a field that is invalid at the front of these bytes. A payload always is valid.
abbrev pub fault_of : Field → List ℕ → FaultKind
fault_of Number after = PastEnd
fault_of Identifier after = if nat_lt (length after) 2 then PastEnd else ZeroIdentifier
fault_of AText after = text_fault_or Nul after
fault_of Name after = text_fault_or NotTopicName after
fault_of Filter after = item_fault_or (text_fault_or NotTopicFilter after) after
fault_of Binary after = PastEnd
fault_of Protocol after = text_fault_or ProtocolName after
fault_of Level after = byte_fault_or ProtocolLevel after
fault_of (Flags flags) after = byte_fault_or ForbiddenFlags after
fault_of (Present present) after = byte_fault_or ForbiddenFlags after
fault_of (Returned present) after = byte_fault_or ForbiddenCode after
fault_of Requested after = byte_fault_or ForbiddenCode after
fault_of Granted after = item_fault_or ForbiddenCode after
fault_of Payload after = PastEnd
fault_of End after = BytesLeft

-- `front` is the fields before the first invalid one: some layout continues behind them, and none
-- with a field that is valid there. The fault is that of the next field, which is the end only if
-- no other field may come.
pub record FirstBad (layout : List Field → Type 0) (front after : List ℕ) (kind : FaultKind) : Type 0 where
  pub before : List Field
  pub right : Laid before front
  pub next : Field
  pub more : List Field
  pub goes_on : layout (before ++ next ∷ more)
  pub wrong : (field : Field) (others : List Field) → layout (before ++ field ∷ others) → Stands field after → ⊥
  pub fault : kind ≡ fault_of next after
  pub only : next ≡ End
      → (field : Field) (others : List Field) → layout (before ++ field ∷ others) → field ≡ End

-- `buffer` begins with a complete packet whose header is valid. Its first invalid field is at this
-- place, and has this kind of fault.
pub record BadFieldAt (limits : Bounds) (buffer : List ℕ) (cause : FaultKind) (place : ℕ) : Type 0 where
  pub first : ℕ
  pub len : List ℕ
  pub front : List ℕ
  pub after : List ℕ
  pub rest : List ℕ
  pub bytes : buffer ≡ first ∷ len ++ ((front ++ after) ++ rest)
  pub kind : Kind
  pub right : kind_at first ≡ Ok kind
  pub formed : LengthUnder limits.lenient (length (front ++ after)) len
  pub bad : FirstBad (Layout kind) front after cause
  pub here : place ≡ 1 + length len + length front

-- The fault of a field is that of the first invalid field.
abbrev pub FaultyFields : Type 0
FaultyFields =
    (limits : Bounds) (buffer : List ℕ) (cause : FaultKind) (place : ℕ)
    → AreBytes buffer → FieldFault limits buffer cause place → BadFieldAt limits buffer cause place
