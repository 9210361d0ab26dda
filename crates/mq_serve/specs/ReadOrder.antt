-- The order in which workers pass on their bytes. Connections are numbered in the order in which
-- they were accepted.
use Rattle.std.specs.Prelude.{ℕ, Bool, true, false, not, ◌&&◌, ◌||◌, nat_eq, nat_le, is_some, List, Option, Some, None, slice_index_or, slice_set}
use Rattle.mq_serve.specs.declared.read_order.ReadSeat.{ReadSeat}

-- the worker serves no connection that was accepted before this one
abbrev pub is_later : ℕ → Option ℕ → Bool
is_later number None = true
is_later number (Some own) = nat_le number own

-- The first bytes of this connection need not wait for this worker: it serves no connection that
-- was accepted before, or its socket was empty since this one was accepted.
abbrev pub is_read : ℕ → ReadSeat → Bool
is_read number seat = is_later number seat.connection || nat_le number seat.emptied

-- A read left nothing. It began after the last read that left nothing.
abbrev pub after_empty_read : ℕ → ReadSeat → ReadSeat
after_empty_read last seat = record seat { emptied = seat.seen; seen = last }

-- The worker waits for its turn, or waits no more.
abbrev pub with_waiting : Bool → ReadSeat → ReadSeat
with_waiting is_waiting seat = record seat { is_waiting = is_waiting }

-- the worker with this number waits for its turn
abbrev pub waits : ℕ → ReadSeat → Bool
waits number seat = seat.is_waiting

-- the worker with this number serves a connection, and is another one than `worker`
abbrev pub reads_beside : ℕ → ℕ → ReadSeat → Bool
reads_beside worker number seat = is_some seat.connection && not (nat_eq number worker)

-- a worker that serves nothing; one that begins to serve a connection
abbrev pub idle : ReadSeat
idle = record { connection = None; emptied = 0; seen = 0; is_waiting = false }

abbrev pub serving : ℕ → ReadSeat
serving number = record idle { connection = Some number }

-- The readings of all workers, for contracts: the last connection that was accepted, and the
-- reading of each worker.
pub record Readings : Type 0 where
  pub last : ℕ
  pub seats : List ReadSeat

abbrev pub readings_of : ℕ → List ReadSeat → Readings
readings_of last seats = record { last = last; seats = seats }

-- the reading of a worker
abbrev pub seat_of : ℕ → Readings → ReadSeat
seat_of worker readings = slice_index_or readings.seats worker idle

-- the reading of a worker is this one
abbrev pub with_seat : ℕ → ReadSeat → Readings → Readings
with_seat worker seat readings = record readings { seats = slice_set readings.seats worker seat }
