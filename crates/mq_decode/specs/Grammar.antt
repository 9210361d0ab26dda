-- Streams of packets, and the bytes behind them (chapters 2 and 3).
use Rattle.std.specs.Prelude.{◌≡◌, ℕ, ◌+◌, ◌-◌, ◌<◌, ◌≤◌, Bool, true, false, List, [], ◌∷◌, ◌++◌, length, take, Option, Some, None, Result, Ok, Err, ◌⊎◌}
use Rattle.mq_wire.specs.Length.{LooseLength, LengthUnder}
use Rattle.mq_wire.specs.Reading.{IsTooLong, IsOverlong}
use Rattle.mq_packet.specs.declared.packet.Packet.{Packet}
use Rattle.mq_packet.specs.Values.{IsPacket}
use Rattle.mq_packet.specs.Encoding.{Encodes, first_byte, fields}
use Rattle.mq_decode.specs.declared.fault.FaultKind.{FaultKind}
use Rattle.mq_decode.specs.declared.fault.FaultKind.TheVariants.{LengthTooLong, LengthOverlong}
use Rattle.mq_decode.specs.declared.fault.DecodeFault.{DecodeFault}
use Rattle.mq_decode.specs.declared.fault.DecodeError.{DecodeError}
use Rattle.mq_decode.specs.declared.fault.DecodeError.TheVariants as errors
use Rattle.mq_decode.specs.declared.kind.Kind.{Kind}
use Rattle.mq_decode.specs.Kind.{kind_at, size_fault}
use Rattle.mq_decode.specs.Limits.{Bounds}
use Rattle.mq_decode.specs.Bodies.{body_at}

-- `encoded` encodes `value` (chapter 3), except that its remaining length may have more bytes than
-- necessary.
pub record LooselyEncodes (value : Packet) (encoded : List ℕ) : Type 0 where
  pub packet : IsPacket value
  pub len : List ℕ
  pub formed : LooseLength (length (fields value)) len
  pub bytes : encoded ≡ first_byte value ∷ len ++ fields value

-- `bytes` is read as `packet`.
abbrev pub Reads : Bool → Packet → List ℕ → Type 0
Reads false packet bytes = Encodes packet bytes
Reads true packet bytes = LooselyEncodes packet bytes

-- `bytes` is read as `packet`, and its remaining length is within the limits.
abbrev pub ReadsWithin : Bounds → Packet → List ℕ → Type 0
ReadsWithin limits packet bytes = Reads limits.lenient packet bytes × (length (fields packet) ≤ limits.most)

-- `bytes` is read as the packets, one after another.
abbrev pub Stream : Bounds → List Packet → List ℕ → Type 0
Stream limits [] bytes = bytes ≡ []
Stream limits (packet ∷ others) bytes = (first : List ℕ) × (rest : List ℕ) × ReadsWithin limits packet first × Stream limits others rest × (bytes ≡ first ++ rest)

-- the first byte is wrong (2.2.1, 2.2.2)
pub record FirstFault (buffer : List ℕ) (cause : FaultKind) (place : ℕ) : Type 0 where
  pub first : ℕ
  pub rest : List ℕ
  pub bytes : buffer ≡ first ∷ rest
  pub fault : kind_at first ≡ Err cause
  pub here : place ≡ 0

-- the remaining length is invalid (2.2.3): a fourth byte says that a fifth follows, or, under
-- strict limits, a last byte of 0 is not alone
abbrev pub BadLength : Bounds → List ℕ → FaultKind → ℕ → Type 0
BadLength limits rest LengthTooLong place = IsTooLong rest × (place ≡ 4)
BadLength limits rest LengthOverlong place = (limits.lenient ≡ false) × IsOverlong rest place
BadLength limits rest cause place = ⊥

pub record LengthFault (limits : Bounds) (buffer : List ℕ) (cause : FaultKind) (place : ℕ) : Type 0 where
  pub first : ℕ
  pub rest : List ℕ
  pub bytes : buffer ≡ first ∷ rest
  pub kind : Kind
  pub right : kind_at first ≡ Ok kind
  pub fault : BadLength limits rest cause place

-- the remaining length is over the limits, or not the one of the type
pub record SizeFault (limits : Bounds) (buffer : List ℕ) (cause : FaultKind) (place : ℕ) : Type 0 where
  pub first : ℕ
  pub n : ℕ
  pub len : List ℕ
  pub rest : List ℕ
  pub bytes : buffer ≡ first ∷ len ++ rest
  pub kind : Kind
  pub right : kind_at first ≡ Ok kind
  pub formed : LengthUnder limits.lenient n len
  pub fault : size_fault limits.most kind n ≡ Some cause
  pub here : place ≡ 1

-- The header is valid and the packet complete; this is the first invalid field, counted by the
-- number of bytes from it to the end of the packet.
pub record FieldFault (limits : Bounds) (buffer : List ℕ) (cause : FaultKind) (place : ℕ) : Type 0 where
  pub first : ℕ
  pub len : List ℕ
  pub body : List ℕ
  pub rest : List ℕ
  pub bytes : buffer ≡ first ∷ len ++ (body ++ rest)
  pub kind : Kind
  pub right : kind_at first ≡ Ok kind
  pub formed : LengthUnder limits.lenient (length body) len
  pub size : size_fault limits.most kind (length body) ≡ None
  pub left : ℕ
  pub fault : body_at kind body ≡ Err (record { kind = cause; left = left })
  pub here : place ≡ 1 + length len + length body - left

-- `buffer` begins with a valid header (2.2): a valid first byte, and a remaining length within the
-- limits and valid for its type. The packet then takes `size` bytes.
pub record HasHeader (limits : Bounds) (buffer : List ℕ) (size : ℕ) : Type 0 where
  pub first : ℕ
  pub n : ℕ
  pub len : List ℕ
  pub rest : List ℕ
  pub bytes : buffer ≡ first ∷ len ++ rest
  pub kind : Kind
  pub right : kind_at first ≡ Ok kind
  pub formed : LengthUnder limits.lenient n len
  pub fits : size_fault limits.most kind n ≡ None
  pub told : size ≡ 1 + length len + n

-- `buffer` begins with a malformed packet: its first fault, and the place of the fault.
pub data Faulty (limits : Bounds) (buffer : List ℕ) (cause : FaultKind) (place : ℕ) : Type 0 where
  AtFirst : FirstFault buffer cause place → Faulty limits buffer cause place
  AtLength : LengthFault limits buffer cause place → Faulty limits buffer cause place
  AtSize : SizeFault limits buffer cause place → Faulty limits buffer cause place
  AtField : FieldFault limits buffer cause place → Faulty limits buffer cause place

-- `buffer` is an incomplete packet without a fault.
pub record Pending (limits : Bounds) (buffer : List ℕ) : Type 0 where
  pub not_whole : (packet : Packet) (first rest : List ℕ) → ReadsWithin limits packet first → buffer ≡ first ++ rest → ⊥
  pub not_faulty : (cause : FaultKind) (place : ℕ) → Faulty limits buffer cause place → ⊥

-- The bytes behind the packets are an incomplete packet, or begin with a fault.
abbrev pub Ends : Bounds → List ℕ → Option DecodeFault → Type 0
Ends limits rest None = Pending limits rest
Ends limits rest (Some fault) = Faulty limits rest fault.kind fault.place

-- `buffer` is a stream of the packets, followed by a rest with this end.
pub record Reading (limits : Bounds) (buffer : List ℕ) (packets : List Packet) (rest : List ℕ) (end : Option DecodeFault) : Type 0 where
  pub front : List ℕ
  pub stream : Stream limits packets front
  pub parts : buffer ≡ front ++ rest
  pub ends : Ends limits rest end

-- The packets are the first ones of a stream `buffer`, which has more bytes behind them.
pub record Begins (limits : Bounds) (buffer : List ℕ) (packets : List Packet) : Type 0 where
  pub front : List ℕ
  pub stream : Stream limits packets front
  pub rest : List ℕ
  pub parts : buffer ≡ front ++ rest
  pub left : 0 < length rest

-- `new` is `old` with packets, and `buffer` is a stream of these, followed by a rest that is
-- pending.
abbrev pub Goes : Bounds → List ℕ → List Packet → List Packet → List ℕ → Type 0
Goes limits buffer old new rest = (packets : List Packet) × (new ≡ old ++ packets) × Reading limits buffer packets rest None

-- Reading `buffer` stops: `new` is `old` with the packets before the fault, or with some of them if
-- an allocation failed.
abbrev pub Stops : Bounds → List ℕ → List Packet → List Packet → DecodeError → Type 0
Stops limits buffer old new (errors.Fault fault) = (packets : List Packet) × (rest : List ℕ) × (new ≡ old ++ packets) × Reading limits buffer packets rest (Some fault)
Stops limits buffer old new errors.Memory = (packets : List Packet) × (new ≡ old ++ packets) × Begins limits buffer packets

-- The front of the buffer: an incomplete packet, a packet with its size, or a fault.
abbrev pub IsFront : Bounds → List ℕ → Result (Option (Packet × ℕ)) DecodeError → Type 0
IsFront limits buffer (Ok None) = Pending limits buffer
IsFront limits buffer (Ok (Some found)) = (found.1 ≤ length buffer) × ReadsWithin limits found.0 (take found.1 buffer)
IsFront limits buffer (Err errors.Memory) = 0 < length buffer
IsFront limits buffer (Err (errors.Fault fault)) = Faulty limits buffer fault.kind fault.place

-- Pending bytes are missing at least this many bytes: with fewer they are still pending.
abbrev pub Wants : Bounds → List ℕ → ℕ → Type 0
Wants limits buffer count = Pending limits buffer → (more : List ℕ) → length more < count → Pending limits (buffer ++ more)

-- `buffer` is read as a packet, and `new` is `old` with it.
abbrev pub Appends : Bounds → List ℕ → List Packet → List Packet → Type 0
Appends limits buffer old new = (packet : Packet) × ReadsWithin limits packet buffer × (new ≡ old ++ packet ∷ [])

-- `buffer` is pending, and all of it is left, or it is read as a packet, and nothing is left.
abbrev pub Takes : Bounds → List ℕ → List Packet → List Packet → List ℕ → Type 0
Takes limits buffer old new rest = (Pending limits buffer × (new ≡ old) × (rest ≡ buffer)) ⊎ (Appends limits buffer old new × (rest ≡ []))
