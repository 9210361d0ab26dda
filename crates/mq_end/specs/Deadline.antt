-- When `tick` of an end next does something (3.1.2.10). Times are in milliseconds.
use Rattle.std.specs.Prelude.{ℕ, ◌≡◌, ◌<◌, ◌^◌, Bool, false, ◌&&◌, Option, None, Some, nat_le}
use Rattle.mq_end.specs.End.{End, is_up}
use Rattle.mq_end.specs.KeepAlive.{is_late}

-- The server is connected and its client is late, so `tick` closes it.
abbrev pub is_overdue : ℕ → ℕ → End → Bool
is_overdue last now end = is_up end.state && is_late last end.keep_alive now

-- Something is due at just the times from the deadline on. Without a deadline it is due at no time
-- of 64 bits.
abbrev pub IsDeadline : (ℕ → Bool) → Option ℕ → Type 0
IsDeadline is_due None = (now : ℕ) → now < 2 ^ 64 → is_due now ≡ false
IsDeadline is_due (Some deadline) = (now : ℕ) → is_due now ≡ nat_le deadline now
