-- Reading a packet from a reader, in terms of the reader's remaining bytes, if they are known. Only
-- proofs cite these definitions.
use Rattle.std.specs.Prelude.{ℕ, Option, Some, None, Result, Ok, Err}
use Rattle.mq_packet.specs.declared.packet.Packet.{Packet}
use Rattle.mq_decode.specs.declared.fault.DecodeError.{DecodeError}
use Rattle.mq_decode.specs.declared.fault.DecodeError.TheVariants as decodes
use Rattle.mq_decode.specs.declared.read.ReadError.{ReadError}
use Rattle.mq_decode.specs.declared.read.ReadError.TheVariants as errors

-- A reader without more bytes failed, or an allocation did.
abbrev pub FillStops : ReadError → Type 0
FillStops errors.Cut = ⊥
FillStops (errors.Io error) = Unit {0}
FillStops (errors.Fault fault) = ⊥
FillStops errors.Memory = Unit {0}

-- The packet that was read, without its size.
abbrev pub without_size : Result (Option (Packet × ℕ)) ReadError → Result (Option Packet) ReadError
without_size (Ok (Some found)) = Ok (Some found.0)
without_size (Ok None) = Ok None
without_size (Err error) = Err error

-- the decoder's error, for a reader
abbrev pub stop_of : DecodeError → ReadError
stop_of (decodes.Fault fault) = errors.Fault fault
stop_of decodes.Memory = errors.Memory
