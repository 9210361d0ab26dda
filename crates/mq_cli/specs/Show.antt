-- The result of `show`.
use Rattle.std.specs.Prelude.{◌≡◌, ℕ, ◌+◌, ◌<◌, List, [], ◌++◌, length, Some, None, Ok}
use Rattle.hex.specs.Hex.{decode_of}
use Rattle.mq_packet.specs.declared.packet.Packet.{Packet}
use Rattle.mq_decode.specs.Limits.{Bounds}
use Rattle.mq_decode.specs.Grammar.{Reading, Stream}
use Rattle.mq_cli.specs.declared.stream.StreamEnd.{StreamEnd}
use Rattle.mq_cli.specs.declared.stream.StreamEnd.TheVariants.{Whole, Held, Fault}
use Rattle.mq_cli.specs.declared.stream.Shown.{Shown}

-- The bytes are these packets with this end: nothing, an incomplete packet, or a malformed packet
-- that begins at the end of the packets.
abbrev pub Reads : Bounds → List ℕ → List Packet → StreamEnd → Type 0
Reads limits bytes packets Whole = Reading limits bytes packets [] None
Reads limits bytes packets (Held count) = (rest : List ℕ) × Reading limits bytes packets rest None × (count ≡ length rest) × (0 < count)
Reads limits bytes packets (Fault fault start) = (rest : List ℕ) × Reading limits bytes packets rest (Some fault) × (start + length rest ≡ length bytes)

-- the packets are the first of these bytes
abbrev pub AreFirst : Bounds → List ℕ → List Packet → Type 0
AreFirst limits bytes packets = (front : List ℕ) × (rest : List ℕ) × Stream limits packets front × (bytes ≡ front ++ rest)

-- The packets, and the end, of the bytes in hexadecimal digits.
abbrev pub Shows : Bounds → List ℕ → Shown → Type 0
Shows limits digits shown = (bytes : List ℕ) × (decode_of digits ≡ Ok bytes) × Reads limits bytes shown.packets.items shown.end
