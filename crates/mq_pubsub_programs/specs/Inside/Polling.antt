-- Reads of sockets.
use Rattle.std.specs.Prelude.{ℕ, List, None}
use Rattle.mq_stream.specs.Stream.{Arrives}
use Rattle.mq_stream.specs.declared.stream.ReadOutcome.{ReadOutcome}

-- No byte was read, whatever the buffer has.
abbrev pub HasNoBytes : ReadOutcome → Type 0
HasNoBytes outcome = (buffer : List ℕ) → Arrives None None buffer outcome
