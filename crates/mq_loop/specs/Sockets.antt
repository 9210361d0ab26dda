-- Reads and writes of a socket that never waits.
use Rattle.std.specs.Prelude.{◌≡◌, ℕ, ◌≤◌, List, ◌++◌, length, take, Bool, true, false, Option}
use Rattle.std.specs.Io.KnownBytes.{append_known}
use Rattle.mq_stream.specs.declared.stream.ReadOutcome.{ReadOutcome}
use Rattle.mq_stream.specs.declared.stream.ReadOutcome.TheVariants.{Bytes, Nothing, End, Failed}
use Rattle.mq_loop.specs.declared.socket.WriteOutcome.{WriteOutcome}
use Rattle.mq_loop.specs.declared.socket.WriteOutcome.TheVariants as writes

-- at most this number of bytes were read
abbrev pub IsWithin : ℕ → ReadOutcome → Type 0
IsWithin most (Bytes count) = count ≤ most
IsWithin most Nothing = Unit {0}
IsWithin most End = Unit {0}
IsWithin most Failed = Unit {0}

-- nothing more comes from a socket, or it failed
abbrev pub finishes : ReadOutcome → Bool
finishes (Bytes count) = false
finishes Nothing = false
finishes End = true
finishes Failed = true

-- at most this number of bytes were written
abbrev pub IsTaken : ℕ → WriteOutcome → Type 0
IsTaken most (writes.Bytes count) = count ≤ most
IsTaken most writes.Nothing = Unit {0}
IsTaken most writes.Failed = Unit {0}

-- A read: `Bytes count` means that this number of bytes was read, and that they are in the buffer.
-- Otherwise none was.
abbrev pub ComesIn : Option (List ℕ) → Option (List ℕ) → List ℕ → ReadOutcome → Type 0
ComesIn old new buffer (Bytes count) = (count ≤ length buffer) × (new ≡ append_known old (take count buffer))
ComesIn old new buffer Nothing = new ≡ old
ComesIn old new buffer End = new ≡ old
ComesIn old new buffer Failed = new ≡ old

-- A write: `Bytes count` means that this number of bytes was written from the front. Otherwise none
-- was.
abbrev pub GoesOut : Option (List ℕ) → Option (List ℕ) → List ℕ → WriteOutcome → Type 0
GoesOut old new bytes (writes.Bytes count) =
    (count ≤ length bytes) × (new ≡ append_known old (take count bytes))
GoesOut old new bytes writes.Nothing = new ≡ old
GoesOut old new bytes writes.Failed = new ≡ old

-- Kept output was written up to a point: its first part was sent, and the rest is kept.
abbrev pub Sends : Option (List ℕ) → List ℕ → Option (List ℕ) → List ℕ → Type 0
Sends went kept went_new kept_new =
    (sent : List ℕ) × (kept ≡ sent ++ kept_new) × (went_new ≡ append_known went sent)
