-- Two sides that are joined by two queues of packets, and the moves between them.
use Rattle.std.specs.Prelude.{ℕ, ◌≡◌, false, Option, None, List, [], ◌∷◌}
use Rattle.mq_packet.specs.declared.connect.Connect.{Connect}
use Rattle.mq_packet.specs.declared.packet.Packet.{Packet}
use Rattle.mq_end.specs.Client.{connects}
use Rattle.mq_end.specs.Server.{opens}
use Rattle.mq_world.specs.declared.side.Side.{Side}
use Rattle.mq_world.specs.declared.side.Side.TheVariants.{Client, Server}
use Rattle.mq_world.specs.Half.{Half, Action, Drops, blank_half, May, moved, put}

-- The machine: both sides.
pub record Machine : Type 0 where
  pub client : Half
  pub server : Half

-- At first neither side has a session, and there is no connection. Both have this receive window,
-- if any.
abbrev pub blank_machine : Option ℕ → Machine
blank_machine window = record { client = blank_half window; server = blank_half window }

-- Each connection begins with this CONNECT: the client `w`, clean session 0, so that both sides
-- keep their sessions (3.1.2.4), and a keep-alive of 60 seconds.
abbrev pub first_packet : Connect
first_packet = record { client_id = 119 ∷ []; clean_session = false; keep_alive = 60; will = None; login = None }

-- A move: a side does something; or a new connection is opened; or the client's program ends, and
-- continues with the session that it saved (3.1.2.4, 4.1).
pub data Move : Type 0 where
  By : Side → Action → Move
  Opens : Move
  Restarts : Move

-- the client of a new connection: the queue toward it is empty
abbrev pub opened_client : Half → Half
opened_client half = record half { end = (connects first_packet half.end).end; coming = [] }

-- The server of a new connection: the queue toward it has only the client's CONNECT (3.1).
abbrev pub opened_server : List Packet → Half → Half
opened_server packets half = record half { end = (opens half.end).end; coming = packets }

-- a side that knows no keep-alive until its next connection (3.1.2.10)
abbrev pub without_keep_alive : Half → Half
without_keep_alive half = record half { end = record half.end { keep_alive = 0 } }

-- when a move may be made; a connection may be opened at any time, and a program may end at any
-- time
abbrev pub IsAllowed : ℕ → ℕ → Machine → Move → Type 0
IsAllowed limit capacity machine (By Client action) = May limit capacity Client action machine.client
IsAllowed limit capacity machine (By Server action) = May limit capacity Server action machine.server
IsAllowed limit capacity machine Opens = Unit {0}
IsAllowed limit capacity machine Restarts = Unit {0}

-- The machine after a move: the packets that a side sends join the queue toward the other. If the
-- client's program ends, its connection is lost; this is a drop, except that the keep-alive is not
-- saved.
abbrev pub after : Machine → Move → Machine
after machine (By Client action) = record { client = (moved Client action machine.client).half; server = put (moved Client action machine.client).out machine.server }
after machine (By Server action) = record { client = put (moved Server action machine.server).out machine.client; server = (moved Server action machine.server).half }
after machine Opens = record { client = opened_client machine.client; server = opened_server (connects first_packet machine.client.end).out machine.server }
after machine Restarts = record {
  client = (moved Client Drops (without_keep_alive machine.client)).half;
  server = put (moved Client Drops (without_keep_alive machine.client)).out machine.server;
}

-- The machine can make these moves, one after another. `limit` bounds the remaining length of
-- published messages, `capacity` the identifiers in use at a side.
abbrev pub Run : ℕ → ℕ → Machine → List Move → Machine → Type 0
Run limit capacity machine [] reached = reached ≡ machine
Run limit capacity machine (move ∷ moves) reached = IsAllowed limit capacity machine move × Run limit capacity (after machine move) moves reached
