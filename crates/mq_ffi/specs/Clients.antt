-- Calls of a client behind a handle.
use Rattle.std.specs.Prelude.{◌≡◌, ◌⊎◌, ℕ, zero, suc, ◌-◌, ◌^◌, ◌≤◌, ◌<◌, List, Option, None, Some, Result, Ok, Err, ℤ, unwrap_or}
use Rattle.mq_wire.specs.Text.{IsText}
use Rattle.mq_decode.specs.Limits.{strict}
use Rattle.mq_end.specs.declared.config.ClientConfig.{ClientConfig}
use Rattle.mq_end.specs.Deadline.{IsDeadline}
use Rattle.mq_end.specs.KeepAlive.{pings}
use Rattle.mq_embedded.specs.declared.fault.CallFault.{CallFault}
use Rattle.mq_embedded.specs.Arguments.{IsArgumentFault}
use Rattle.mq_embedded.specs.Calls.{WithEvents}
use Rattle.mq_embedded.specs.Starts.{Starts}

-- The handle has a client before and after the call, and they are related by this relation.
abbrev pub Passes : (WithEvents → WithEvents → Type 0) → Option WithEvents → Option WithEvents → Type 0
Passes R None new = ⊥
Passes R (Some old) None = ⊥
Passes R (Some old) (Some new) = R old new

-- The code of a result that this relation allows.
abbrev pub Codes : {X : Type 0} → (Result X CallFault → ℤ) → (Result X CallFault → Type 0) → ℤ → Type 0
Codes {X} code_of Allows code = (result : Result X CallFault) × Allows result × (code ≡ code_of result)

-- They are related by a call of the client, whose result's code is returned.
abbrev pub Calls : {X : Type 0} → (Result X CallFault → ℤ) → (WithEvents → WithEvents → Result X CallFault → Type 0) → Option WithEvents → Option WithEvents → ℤ → Type 0
Calls code_of R None new code = ⊥
Calls code_of R (Some old) None code = ⊥
Calls code_of R (Some old) (Some new) code = Codes code_of (R old new) code

-- The time from which a tick does something, or the largest number.
abbrev pub IsNextTick : WithEvents → ℕ → Type 0
IsNextTick client time =
    (deadline : Option ℕ)
    × IsDeadline (λ now. pings client.end.link.last_activity now client.end.link.end) deadline
    × (time ≡ unwrap_or deadline (2 ^ 64 - 1))

-- A window of 0 sets no limit.
abbrev pub window_of : ℕ → Option ℕ
window_of zero = None
window_of (suc less) = Some (suc less)

abbrev pub HasOptions : List ℕ → ℕ → ℕ → ℕ → ℕ → ClientConfig → Type 0
HasOptions id keep_alive max_packet capacity window config =
    (config.id ≡ id) × (config.keep_alive ≡ keep_alive) × (config.limits ≡ strict max_packet)
    × (config.capacity ≡ capacity) × (config.window ≡ window_of window)

-- A client can have these options.
pub record AreOptions (id : List ℕ) (max_packet capacity : ℕ) : Type 0 where
  pub text : IsText id
  pub least : 64 ≤ max_packet
  pub most : max_packet < 2 ^ 28
  pub places : 0 < capacity

-- There is a client with such options, which continues the saved session if there are bytes.
abbrev pub Made : (ClientConfig → Type 0) → List ℕ → Option WithEvents → Type 0
Made Is saved None = ⊥
Made Is saved (Some client) = (config : ClientConfig) × Is config × Starts config saved (Ok client)

-- Why there is none.
abbrev pub IsNotMade : (ClientConfig → Type 0) → Type 0 → List ℕ → CallFault → Type 0
IsNotMade Is Valid saved why =
    IsArgumentFault Valid why
    ⊎ ((config : ClientConfig) × Is config × Starts config saved (Err why))

-- A client is made, or nothing changes.
abbrev pub Makes : (ClientConfig → Type 0) → Type 0 → List ℕ → Option WithEvents → Option WithEvents → Result (Unit {0}) CallFault → Type 0
Makes Is Valid saved old new (Ok done) = Made Is saved new
Makes Is Valid saved old new (Err why) = (new ≡ old) × IsNotMade Is Valid saved why
