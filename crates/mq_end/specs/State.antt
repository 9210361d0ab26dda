-- An end as contracts see it: its session, and the bytes of its connection.
use Rattle.std.specs.Prelude.{◌≡◌, ℕ, Bool, true, false, not, ◌&&◌, if◌then◌else◌, ◌-◌, List, [], ◌∷◌, ◌++◌}
use Rattle.mq_packet.specs.declared.packet.Packet.{Packet}
use Rattle.mq_packet.specs.Encoding.{Encodes}
use Rattle.mq_decode.specs.Limits.{Bounds}
use Rattle.mq_decode.specs.declared.fault.FaultKind.{FaultKind}
use Rattle.mq_decode.specs.declared.fault.FaultKind.TheVariants.{ProtocolLevel}
use Rattle.mq_decode.specs.declared.fault.DecodeFault.{DecodeFault}
use Rattle.mq_end.specs.declared.reason.CloseReason.TheVariants as reasons
use Rattle.mq_end.specs.End.{End, Reply, closes, is_up}
use Rattle.mq_end.specs.Server.{level_refused}

-- Reserved room: the number of messages with an identifier (4.3.2, 4.3.3), and the number of bytes
-- that may be pending, including those that are.
pub record Room : Type 0 where
  pub messages : ℕ
  pub bytes : ℕ

-- end: session and connection.
-- capacity: the maximum number of packet identifiers in use (2.3.1).
-- limit: the bounds on packets that are read and published (2.2.3).
-- held: the bytes of the incomplete packet.
-- output: the pending output.
-- last_activity: a time in milliseconds, at the client that of its CONNECT or last PINGREQ, at the
-- server that of the last complete packet (3.1.2.10).
-- room: the reserved room.
pub record EndState : Type 0 where
  pub end : End
  pub capacity : ℕ
  pub limit : Bounds
  pub held : List ℕ
  pub output : List ℕ
  pub last_activity : ℕ
  pub room : Room

-- no room
abbrev pub no_room : Room
no_room = record { messages = 0; bytes = 0 }

-- No byte may be pending without allocation, since the queue was exchanged.
abbrev pub no_bytes : Room → Room
no_bytes room = record room { bytes = 0 }

-- Written bytes give up their room.
abbrev pub bytes_less : ℕ → Room → Room
bytes_less count room = record room { bytes = room.bytes - count }

-- The encodings of packets, one after another (chapter 3).
abbrev pub EncodesAll : List Packet → List ℕ → Type 0
EncodesAll [] bytes = bytes ≡ []
EncodesAll (packet ∷ packets) bytes = (first : List ℕ) × (rest : List ℕ) × Encodes packet first × EncodesAll packets rest × (bytes ≡ first ++ rest)

-- Packets are sent: the pending output grows by their encodings.
abbrev pub PutsOut : List Packet → List ℕ → List ℕ → Type 0
PutsOut packets old new = (bytes : List ℕ) × EncodesAll packets bytes × (new ≡ old ++ bytes)

-- ---- bytes that are not a packet

-- a CONNECT is of another level of the protocol (3.1.2.2)
abbrev pub is_level : FaultKind → Bool
is_level ProtocolLevel = true
is_level kind = false

-- A malformed packet arrives at the client: it closes (4.8).
abbrev pub client_faulted : DecodeFault → End → Reply
client_faulted fault end = closes (reasons.Fault fault) end

-- A malformed packet arrives at the server: it closes (4.8). A first CONNECT of another protocol
-- level is answered (3.1.2.2).
abbrev pub server_faulted : DecodeFault → End → Reply
server_faulted fault end = if not (is_up end.state) && is_level fault.kind then level_refused end else closes (reasons.Fault fault) end
