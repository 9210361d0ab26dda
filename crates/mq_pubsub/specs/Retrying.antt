-- When a run continues after a loss, and how long it waits.
use Rattle.std.specs.Prelude.{ℕ, ◌-◌, ◌*◌, ◌≤◌, min, Bool, true, false, Option, Some, None}
use Rattle.mq_packet.specs.declared.connack.RefusalCode.TheVariants as refusals
use Rattle.mq_end.specs.declared.reason.CloseReason.TheVariants as reasons
use Rattle.mq_pubsub.specs.declared.error.RunError.{RunError}
use Rattle.mq_pubsub.specs.declared.error.RunError.TheVariants as errors

-- the first wait, in milliseconds
abbrev pub first_wait : ℕ → ℕ
first_wait limit = min 100 limit

-- each wait is twice the one before, and none is over the limit
abbrev pub wait_after : ℕ → ℕ → ℕ
wait_after limit wait = min (wait * 2) limit

-- the run has no time left at this time
abbrev pub IsOver : Option ℕ → ℕ → Type 0
IsOver None now = ⊥
IsOver (Some deadline) now = deadline ≤ now

-- a wait that ends at the deadline at the latest
abbrev pub cut_wait : Option ℕ → ℕ → ℕ → ℕ
cut_wait None now wait = wait
cut_wait (Some deadline) now wait = min wait (deadline - now)

-- A new connection may succeed after the loss of one. If the server refused CONNECT as unavailable
-- (3.2.2.3), it may do so after it had accepted one.
abbrev pub is_loss : Bool → RunError → Bool
is_loss was_up errors.Lost = true
is_loss was_up (errors.Closed (reasons.Refused refusals.ServerUnavailable)) = was_up
is_loss was_up error = false
