-- The receive window: the maximum number of stored identifiers of QoS 2 messages. The standard does
-- not define one; an end may close the connection when it is exceeded (4.8).
use Rattle.std.specs.Prelude.{ℕ, ◌≤◌, max, Bool, true, ◌||◌, Option, Some, None, nat_lt}
use Rattle.std.specs.FinSet as FinSet
use Rattle.mq_flow.specs.Receiver.{ReceiverBook}

-- A QoS 2 PUBLISH with this identifier fits the window: its identifier is stored already, so it is
-- a duplicate (4.3.3), or fewer identifiers are stored than the window allows. Without a window
-- each fits.
abbrev pub fits_window : Option ℕ → ℕ → ReceiverBook → Bool
fits_window None id book = true
fits_window (Some window) id book = FinSet.contains book id || nat_lt (FinSet.len book) window

-- All messages that a sender of this capacity has in flight fit the window at once.
abbrev pub Spans : Option ℕ → ℕ → Type 0
Spans None capacity = Unit {0}
Spans (Some window) capacity = capacity ≤ window

-- The number of stored identifiers is at most the window, or at most the number before.
abbrev pub IsWithin : Option ℕ → ReceiverBook → ReceiverBook → Type 0
IsWithin None before after = Unit {0}
IsWithin (Some window) before after = FinSet.len after ≤ max window (FinSet.len before)
