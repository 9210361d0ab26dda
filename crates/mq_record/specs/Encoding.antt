-- The encoding of a recorded event: a tag, then its numbers in big-endian order.
use Rattle.std.specs.Prelude.{ℕ, ◌/◌, ◌%◌, Bool, true, false, nat_le, List, [], ◌∷◌, ◌++◌, length}
use Rattle.std.specs.List.{flat_map}
use Rattle.mq_wire.specs.Number.{number}
use Rattle.mq_route.specs.declared.conn.Conn.{Conn}
use Rattle.mq_route.specs.declared.event.HubEvent.{HubEvent}
use Rattle.mq_route.specs.declared.event.HubEvent.TheVariants.{Opened, Bytes, Ended, Tick, Collect}

-- a number in four bytes, and in eight
abbrev pub four_bytes : ℕ → List ℕ
four_bytes value = number (value / 65536) ++ number (value % 65536)

abbrev pub eight_bytes : ℕ → List ℕ
eight_bytes value = four_bytes (value / 4294967296) ++ four_bytes (value % 4294967296)

-- the name of a connection
abbrev pub conn_bytes : Conn → List ℕ
conn_bytes conn = number conn.worker ++ four_bytes conn.nth

-- all events but `Collect` are recorded
abbrev pub is_recorded : HubEvent → Bool
is_recorded (Opened conn) = true
is_recorded (Bytes conn piece) = true
is_recorded (Ended conn) = true
is_recorded (Tick now) = true
is_recorded (Collect conn) = false

-- the encoding of a recorded event; `Collect` has none
abbrev pub event_bytes : HubEvent → List ℕ
event_bytes (Opened conn) = 1 ∷ conn_bytes conn
event_bytes (Bytes conn piece) = 2 ∷ (conn_bytes conn ++ (four_bytes (length piece) ++ piece))
event_bytes (Ended conn) = 3 ∷ conn_bytes conn
event_bytes (Tick now) = 4 ∷ eight_bytes now
event_bytes (Collect conn) = []

-- the encodings of several events, one behind the other
abbrev pub entry_bytes : List HubEvent → List ℕ
entry_bytes events = flat_map event_bytes events

-- the length of the piece does not fit in four bytes
abbrev pub is_too_long : HubEvent → Bool
is_too_long (Opened conn) = false
is_too_long (Bytes conn piece) = nat_le 4294967296 (length piece)
is_too_long (Ended conn) = false
is_too_long (Tick now) = false
is_too_long (Collect conn) = false
