-- Reading single fields from the front of the bytes of a packet (1.5). Only proofs cite these
-- definitions.
use Rattle.std.specs.Prelude.{ℕ, List, [], ◌∷◌, Result, Ok, Err}
use Rattle.mq_decode.specs.declared.fault.FaultKind.TheVariants.{PastEnd}
use Rattle.mq_decode.specs.declared.fault.BadField.{BadField}
use Rattle.mq_decode.specs.Fields.{bad_at}

abbrev pub byte_at : List ℕ → Result (ℕ × List ℕ) BadField
byte_at [] = Err (bad_at PastEnd [])
byte_at (byte ∷ bytes) = Ok (byte, bytes)
