-- Laws of the grammar.
use Rattle.std.specs.Prelude.{◌≡◌, ℕ, ◌+◌, ◌<◌, ◌≤◌, List, ◌∷◌, ◌++◌, length, take, drop, Option}
use Rattle.mq_wire.specs.Bytes.{AreBytes}
use Rattle.mq_packet.specs.declared.packet.Packet.{Packet}
use Rattle.mq_packet.specs.Encoding.{Encodes, fields}
use Rattle.mq_decode.specs.declared.fault.FaultKind.{FaultKind}
use Rattle.mq_decode.specs.declared.fault.DecodeFault.{DecodeFault}
use Rattle.mq_decode.specs.Limits.{Bounds}
use Rattle.mq_decode.specs.Grammar.{ReadsWithin, Faulty, Pending, Reading}

-- two readings of the same bytes are one
abbrev pub OneReading : Type 0
OneReading = (limits : Bounds) (buffer : List ℕ) (packets others : List Packet) (rest last : List ℕ) (end stop : Option DecodeFault)
    → Reading limits buffer packets rest end → Reading limits buffer others last stop → (packets ≡ others) × (rest ≡ last) × (end ≡ stop)

-- every list of bytes has a reading
abbrev pub EachReads : Type 0
EachReads = (limits : Bounds) (buffer : List ℕ) → AreBytes buffer → (packets : List Packet) × (rest : List ℕ) × (end : Option DecodeFault) × Reading limits buffer packets rest end

-- Pending bytes exceed the limit by at most five bytes.
abbrev pub PendingIsShort : Type 0
PendingIsShort = (limits : Bounds) (buffer : List ℕ) → AreBytes buffer → Pending limits buffer → length buffer ≤ 5 + limits.most

-- a packet that is read at the front
pub record ReadsAgain : Type 0 where
  -- Each encoding is read as its packet, under all limits that admit it.
  pub encoded : (limits : Bounds) (packet : Packet) (bytes : List ℕ) → Encodes packet bytes → length (fields packet) ≤ limits.most → ReadsWithin limits packet bytes
  -- is the only one
  pub one : (limits : Bounds) (packet other : Packet) (bytes other_bytes rest more : List ℕ)
      → ReadsWithin limits packet bytes → ReadsWithin limits other other_bytes → bytes ++ rest ≡ other_bytes ++ more → (packet ≡ other) × (rest ≡ more)
  -- takes at least a byte
  pub some : (limits : Bounds) (packet : Packet) (bytes : List ℕ) → ReadsWithin limits packet bytes → 0 < length bytes
  -- and is no fault
  pub right : (limits : Bounds) (packet : Packet) (bytes rest : List ℕ) (cause : FaultKind) (place : ℕ) → ReadsWithin limits packet bytes → Faulty limits (bytes ++ rest) cause place → ⊥

-- A packet from the held bytes and the front of a piece, followed by a reading of the rest of the
-- piece, is a reading of both.
abbrev pub ReadsOn : Type 0
ReadsOn = (limits : Bounds) (held piece : List ℕ) (packet : Packet) (count : ℕ) (packets : List Packet) (rest : List ℕ) (end : Option DecodeFault)
    → ReadsWithin limits packet (held ++ take count piece) → Reading limits (drop count piece) packets rest end → Reading limits (held ++ piece) (packet ∷ packets) rest end
