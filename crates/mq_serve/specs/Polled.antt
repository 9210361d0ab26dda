-- A connection that a worker polls.
use Rattle.std.specs.Prelude.{ℕ, Bool, List, Option}
use Rattle.std.specs.Io.KnownBytes.{append_known}
use Rattle.mq_serve.specs.Pending.{Pending, bytes_of}

-- A connection: the bytes that its socket took, if they are known; the output that it did not take
-- yet; and whether bytes of the peer are there, or it is not known.
pub record Polled : Type 0 where
  pub taken : Option (List ℕ)
  pub pending : Pending
  pub heard : Bool

-- the bytes that were written, if they are known: the socket took them, or they are pending
abbrev pub written_of : Polled → Option (List ℕ)
written_of polled = append_known polled.taken (bytes_of polled.pending)
