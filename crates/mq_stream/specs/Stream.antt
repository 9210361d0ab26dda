-- What a read of a stream does.
use Rattle.std.specs.Prelude.{ℕ, zero, suc, ◌≤◌, List, length, take, Option, ⊤}
use Rattle.std.specs.Io.KnownBytes.{Consumes, Keeps}
use Rattle.mq_stream.specs.declared.stream.ReadOutcome.{ReadOutcome}
use Rattle.mq_stream.specs.declared.stream.ReadOutcome.TheVariants.{Bytes, Nothing, End, Failed}

-- `Bytes count`: the next `count` bytes of the stream are in the buffer. Otherwise no byte was
-- read.
abbrev pub Arrives : Option (List ℕ) → Option (List ℕ) → List ℕ → ReadOutcome → Type 0
Arrives old new buffer (Bytes count) = (count ≤ length buffer) × Consumes old new (take count buffer)
Arrives old new buffer Nothing = Keeps old new
Arrives old new buffer End = Keeps old new
Arrives old new buffer Failed = Keeps old new

-- nothing more can be read
abbrev pub IsOver : ReadOutcome → Type 0
IsOver (Bytes count) = ⊥
IsOver Nothing = ⊥
IsOver End = ⊤
IsOver Failed = ⊤

-- The outcome of a read of this number of bytes into a buffer that has room: no byte means the
-- end.
abbrev pub outcome_of : ℕ → ReadOutcome
outcome_of zero = End
outcome_of (suc rest) = Bytes (suc rest)

-- no byte was read, and the end was not seen
abbrev pub IsUnread : ReadOutcome → Type 0
IsUnread (Bytes count) = ⊥
IsUnread Nothing = ⊤
IsUnread End = ⊥
IsUnread Failed = ⊤
