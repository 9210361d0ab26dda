-- Packets in a caller's buffer.
use Rattle.std.specs.Prelude.{◌≡◌, ℕ, ◌≤◌, ◌^◌, ◌<◌, List, ◌++◌, length, take, drop, Result, Ok, Err}
use Rattle.mq_packet.specs.declared.packet.Packet.{Packet}
use Rattle.mq_packet.specs.Values.{IsPacket}
use Rattle.mq_packet.specs.Encoding.{Encodes, encoded_size, fields}
use Rattle.mq_bytes.specs.declared.fault.EncodeFault.{EncodeFault}
use Rattle.mq_bytes.specs.declared.fault.EncodeFault.TheVariants.{Argument, TooLarge, Room}

-- `new` is `old` with `front` over its first bytes.
abbrev pub Filled : List ℕ → List ℕ → List ℕ → Type 0
Filled old front new = new ≡ front ++ drop (length front) old

-- The first `count` bytes of `new` are the encoding of the packet, and the others are those of
-- `old`.
pub record Holds (packet : Packet) (old new : List ℕ) (count : ℕ) : Type 0 where
  pub within : count ≤ length old
  pub encodes : Encodes packet (take count new)
  pub rest : drop count new ≡ drop count old
  pub same : length new ≡ length old

-- The result of encoding a packet with these fields into a buffer: its number of bytes, or an
-- error, and the buffer is unchanged. `TooLarge`: its remaining length would exceed 268,435,455
-- (2.2.3). `Room`: it is longer than the buffer. `Argument`: there is no such packet.
abbrev pub Gives : (Packet → Type 0) → List ℕ → List ℕ → Result ℕ EncodeFault → Type 0
Gives Is old new (Ok count) = (packet : Packet) × Is packet × Holds packet old new count
Gives Is old new (Err TooLarge) =
    (packet : Packet) × Is packet × (2 ^ 28 ≤ length (fields packet)) × (new ≡ old)
Gives Is old new (Err Room) =
    (packet : Packet) × Is packet × (length old < encoded_size (length (fields packet))) × (new ≡ old)
Gives Is old new (Err Argument) = ((packet : Packet) → IsPacket packet → Is packet → ⊥) × (new ≡ old)
