-- The workers that must be woken after a step of another worker.
use Rattle.std.specs.Prelude.{ℕ, Bool, false, not, ◌&&◌, ◌||◌, if◌then◌else◌, nat_eq, List, [], ◌∷◌, Option, Some, None}
use Rattle.mq_route.specs.declared.act.Act.{Act}
use Rattle.mq_route.specs.declared.act.Act.TheVariants.{Up, Took, Placed, Missed, Subscribed, Unsubscribed, Will, WillDropped, Closed, Removed}
use Rattle.mq_serve.specs.declared.wakers.WorkerSeat.{WorkerSeat}

abbrev pub is_client : ℕ → Option ℕ → Bool
is_client client None = false
is_client client (Some key) = nat_eq key client

-- the worker serves this client
abbrev pub serves : ℕ → WorkerSeat → Bool
serves client seat = is_client client seat.client

-- the worker must be woken, if this is true or it must be woken already
abbrev pub call_if : Bool → WorkerSeat → WorkerSeat
call_if must_wake seat = record seat { is_called = seat.is_called || must_wake }

-- The worker with this number after an act: it serves the client of its own connection, and must be
-- woken if a message was queued for this client, or if its connection was closed.
abbrev pub after_act : ℕ → Act → WorkerSeat → WorkerSeat
after_act number (Up conn client present) seat =
    if nat_eq conn.worker number then record seat { client = Some client } else seat
after_act number (Took client message) seat = seat
after_act number (Placed client message) seat = call_if (serves client seat) seat
after_act number (Missed client message) seat = seat
after_act number (Subscribed client filter qos) seat = seat
after_act number (Unsubscribed client filter) seat = seat
after_act number (Will client message) seat = seat
after_act number (WillDropped client) seat = seat
after_act number (Closed conn why) seat = call_if (nat_eq conn.worker number) seat
after_act number (Removed client) seat = seat

abbrev pub after_acts : ℕ → List Act → WorkerSeat → WorkerSeat
after_acts number [] seat = seat
after_acts number (act ∷ acts) seat = after_acts number acts (after_act number act seat)

-- a worker that serves no client
abbrev pub vacant : WorkerSeat
vacant = record { client = None; is_called = false }

-- the worker is not called
abbrev pub uncalled : WorkerSeat → WorkerSeat
uncalled seat = record seat { is_called = false }

-- After a step of one worker, the worker with this number must be woken.
abbrev pub must_wake : ℕ → ℕ → WorkerSeat → Bool
must_wake stepped number seat = seat.is_called && not (nat_eq number stepped)
