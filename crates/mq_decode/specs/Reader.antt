-- Reading a packet from a reader, in terms of the reader's remaining bytes, if they are known.
use Rattle.std.specs.Prelude.{◌≡◌, ℕ, ◌<◌, List, length, take, Option, Some, IfSome, Result, Ok, Err}
use Rattle.std.specs.Io.KnownBytes.{Consumes}
use Rattle.mq_packet.specs.declared.packet.Packet.{Packet}
use Rattle.mq_decode.specs.declared.read.ReadError.{ReadError}
use Rattle.mq_decode.specs.declared.read.ReadError.TheVariants as errors
use Rattle.mq_decode.specs.Limits.{Bounds}
use Rattle.mq_decode.specs.Grammar.{ReadsWithin, Faulty, Pending}

-- why no packet was read: an incomplete one was left, or something else than a packet
abbrev pub ReadStops : Bounds → Option (List ℕ) → ReadError → Type 0
ReadStops limits left errors.Cut = IfSome left (λ bytes. Pending limits bytes × (0 < length bytes))
ReadStops limits left (errors.Io error) = Unit {0}
ReadStops limits left (errors.Fault fault) = IfSome left (λ bytes. Faulty limits bytes fault.kind fault.place)
ReadStops limits left errors.Memory = IfSome left (λ bytes. 0 < length bytes)

-- The bytes taken before an error belong to one packet: each proper prefix of them is an incomplete
-- packet and has no fault.
abbrev pub TakesWithin : Bounds → Option (List ℕ) → Option (List ℕ) → Type 0
TakesWithin limits old new = (taken : List ℕ) × Consumes old new taken × ((count : ℕ) → count < length taken → Pending limits (take count taken))

-- A packet that remained is read, unless the reader or an allocation failed.
abbrev pub Answers : Packet → List ℕ → Result (Option Packet) ReadError → Option (List ℕ) → Type 0
Answers packet rest (Ok found) left = (found ≡ Some packet) × (left ≡ Some rest)
Answers packet rest (Err errors.Cut) left = ⊥
Answers packet rest (Err (errors.Io error)) left = Unit {0}
Answers packet rest (Err (errors.Fault fault)) left = ⊥
Answers packet rest (Err errors.Memory) left = Unit {0}

-- The bytes of one packet were taken, and are read as that packet.
abbrev pub TakesSized : Bounds → Option (List ℕ) → Option (List ℕ) → Packet × ℕ → Type 0
TakesSized limits old new found = (bytes : List ℕ) × ReadsWithin limits found.0 bytes × Consumes old new bytes × (found.1 ≡ length bytes)
