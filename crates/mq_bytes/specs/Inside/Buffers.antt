-- Packets in a caller's buffer. Only proofs cite these definitions.
use Rattle.std.specs.Prelude.{◌≡◌, ℕ, ◌≤◌, ◌^◌, ◌<◌, List, ◌∷◌, ◌++◌, length, Result, Ok, Err}
use Rattle.mq_wire.specs.Length.{length_bytes}
use Rattle.mq_packet.specs.Encoding.{encoded_size}
use Rattle.mq_bytes.specs.declared.fault.EncodeFault.{EncodeFault}
use Rattle.mq_bytes.specs.declared.fault.EncodeFault.TheVariants.{Argument, TooLarge, Room}
use Rattle.mq_bytes.specs.Buffers.{Filled}

-- `new` is `old` with a packet of this first byte and these fields over its first `count` bytes.
abbrev pub Frames : ℕ → List ℕ → List ℕ → List ℕ → ℕ → Type 0
Frames first body old new count =
    Filled old (first ∷ length_bytes (length body) ++ body) new × (count ≡ encoded_size (length body))
    × (count ≤ length old) × (length body < 2 ^ 28)

-- The result of writing such a packet.
abbrev pub EncodesParts : ℕ → List ℕ → List ℕ → List ℕ → Result ℕ EncodeFault → Type 0
EncodesParts first body old new (Ok count) = Frames first body old new count
EncodesParts first body old new (Err TooLarge) = (2 ^ 28 ≤ length body) × (new ≡ old)
EncodesParts first body old new (Err Room) =
    (length old < encoded_size (length body)) × (new ≡ old)
EncodesParts first body old new (Err Argument) = ⊥
