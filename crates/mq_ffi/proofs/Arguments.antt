-- Faults of the options of a client.
use Rattle.std.proofs.Common.{inl, inr}
use Rattle.mq_embedded.specs.declared.fault.CallFault.{CallFault}
use Rattle.mq_embedded.specs.Arguments.{IsArgumentFault}

-- A fault of a part is one of all.
pub of_part : (Part All : Type 0) (why : CallFault) → (All → Part) → IsArgumentFault Part why → IsArgumentFault All why
of_part Part All why part (inl memory) = inl memory
of_part Part All why part (inr fault) = inr (fault.0, λ all. fault.1 (part all))
