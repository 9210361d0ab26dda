-- The bytes that a writer has taken, if the writer reports them.
use Rattle.std.specs.Prelude.{◌≡◌, ℕ, List, ◌++◌, Option}
use Rattle.std.specs.Io.KnownBytes.{Keeps, Appends}
use Rattle.mq_packet.specs.declared.packet.Packet.{Packet}
use Rattle.mq_packet.specs.declared.write.WriteError.{WriteError}
use Rattle.mq_packet.specs.declared.write.WriteError.TheVariants.{Encode, Io}
use Rattle.mq_packet.specs.Encoding.{Encodes}

-- The bytes grow by a prefix of these.
pub record AppendsFront (old new : Option (List ℕ)) (bytes : List ℕ) : Type 0 where
  pub front : List ℕ
  pub rest : List ℕ
  pub parts : bytes ≡ front ++ rest
  pub appends : Appends old new front

-- The bytes grow by the encoding of the packet.
pub record WritesPacket (packet : Packet) (old new : Option (List ℕ)) : Type 0 where
  pub encoding : List ℕ
  pub encodes : Encodes packet encoding
  pub appends : Appends old new encoding

-- The bytes grow by a prefix of the encoding of the packet.
pub record WritesFront (packet : Packet) (old new : Option (List ℕ)) : Type 0 where
  pub encoding : List ℕ
  pub encodes : Encodes packet encoding
  pub appends : AppendsFront old new encoding

-- On `Err`: nothing was written if the packet was not encoded, otherwise a prefix of it.
abbrev pub FailsToWrite : Packet → Option (List ℕ) → Option (List ℕ) → WriteError → Type 0
FailsToWrite packet old new (Encode error) = Keeps old new
FailsToWrite packet old new (Io error) = WritesFront packet old new
