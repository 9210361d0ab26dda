-- The start of publishers.
use Rattle.std.specs.Prelude.{◌≡◌, ◌<◌, ◌==◌, ◌&&◌, Bool, not, is_some, Option, None, Some}
use Rattle.mq_client.specs.declared.error.ClientError.{ClientError}
use Rattle.mq_loopback.specs.declared.start_barrier.Waiting.{Waiting}

-- publishers wait: some collector is not subscribed yet, and no client has a fault
abbrev pub IsPending : Waiting → Type 0
IsPending waiting = (0 < waiting.left) × (waiting.fault ≡ None)

-- publishers may start: all collectors are subscribed, and no client has a fault
abbrev pub may_start : Waiting → Bool
may_start waiting = (waiting.left == 0) && not (is_some waiting.fault)

-- the first fault stays
abbrev pub first_fault : Option ClientError → ClientError → Option ClientError
first_fault None fault = Some fault
first_fault (Some first) fault = Some first
