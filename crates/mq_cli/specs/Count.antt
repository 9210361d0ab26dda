-- Counting the packets of a reader.
use Rattle.std.specs.Prelude.{◌≡◌, ⊤, ℕ, ◌+◌, ◌<◌, Bool, true, List, [], length, Option, Some, None}
use Rattle.mq_packet.specs.declared.packet.Packet.{Packet}
use Rattle.mq_decode.specs.Limits.{Bounds}
use Rattle.mq_decode.specs.Grammar.{Reading}
use Rattle.mq_cli.specs.declared.count.PacketCount.{PacketCount}
use Rattle.mq_cli.specs.declared.count.CountEnd.{CountEnd}
use Rattle.mq_cli.specs.declared.count.CountEnd.TheVariants.{Whole, Cut, Fault}
use Rattle.mq_cli.specs.declared.count.CountFault.{CountFault}
use Rattle.mq_cli.specs.declared.count.CountFault.TheVariants as faults
use Rattle.mq_cli.specs.declared.front.Stop.{Stop}
use Rattle.mq_cli.specs.declared.front.Stop.TheVariants as stops
use Rattle.mq_cli.specs.Stops.{IsTooLong}

-- The bytes are these packets with this end: nothing, an incomplete packet, or a malformed packet
-- that begins at the end of the packets.
abbrev pub EndsAt : Bounds → List ℕ → List Packet → CountEnd → Type 0
EndsAt limits bytes packets Whole = Reading limits bytes packets [] None
EndsAt limits bytes packets Cut = (rest : List ℕ) × Reading limits bytes packets rest None × (0 < length rest)
EndsAt limits bytes packets (Fault fault start) = (rest : List ℕ) × Reading limits bytes packets rest (Some fault) × (start + length rest ≡ length bytes)

-- the number of packets, and the end, of these bytes
abbrev pub Counts : Bounds → PacketCount → List ℕ → Type 0
Counts limits count bytes = (packets : List Packet) × EndsAt limits bytes packets count.end × (count.packets ≡ length packets)

-- why packets are not counted: a read may fail, or there are too many bytes
abbrev pub IsNotCounted : Option (List ℕ) → Bool → CountFault → Type 0
IsNotCounted left fails (faults.Io error) = fails ≡ true
IsNotCounted left fails faults.Memory = ⊤
IsNotCounted left fails faults.TooLong = IsTooLong left

abbrev pub fault_of_stop : Stop → CountFault
fault_of_stop (stops.Io error) = faults.Io error
fault_of_stop stops.Memory = faults.Memory
