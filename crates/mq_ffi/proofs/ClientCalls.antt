-- Calls of a client behind a handle.
use Rattle.std.proofs.Common.{◌≡◌, Result, sym, subst}
use Rattle.std.specs.Prelude.{Option, Some, ℤ}
use Rattle.mq_embedded.specs.declared.fault.CallFault.{CallFault}
use Rattle.mq_embedded.specs.Calls.{WithEvents}
use Rattle.mq_ffi.specs.Clients.{Calls, Passes}

pub calls : {X : Type 0} (code_of : Result X CallFault → ℤ) (R : WithEvents → WithEvents → Result X CallFault → Type 0) (before after : Option WithEvents) (old new : WithEvents) (r : Result X CallFault) (code : ℤ) → before ≡ Some old → after ≡ Some new → R old new r → code ≡ code_of r → Calls code_of R before after code
calls code_of R before after old new r code e f h is =
    subst (λ (a : Option WithEvents). Calls code_of R a after code) (sym e) (subst (λ (b : Option WithEvents). Calls code_of R (Some old) b code) (sym f) (r, h, is))

pub passes : (R : WithEvents → WithEvents → Type 0) (before after : Option WithEvents) (old new : WithEvents) → before ≡ Some old → after ≡ Some new → R old new → Passes R before after
passes R before after old new e f h =
    subst (λ (a : Option WithEvents). Passes R a after) (sym e) (subst (λ (b : Option WithEvents). Passes R (Some old) b) (sym f) h)
