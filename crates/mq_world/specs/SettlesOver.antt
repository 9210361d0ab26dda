-- A new connection and three exchanges settle a world over bytes (4.4).
use Rattle.std.specs.Prelude.{ℕ, ◌≡◌, ◌≢◌, true, false, Option, Some, List, [], ◌++◌}
use Rattle.mq_decode.specs.Limits.{Bounds}
use Rattle.mq_end.specs.declared.happening.Happening.{Happening}
use Rattle.mq_end.specs.declared.reason.CloseReason.{CloseReason}
use Rattle.mq_end.specs.declared.reason.CloseReason.TheVariants as reasons
use Rattle.mq_end.specs.declared.state.State.TheVariants.{Connected}
use Rattle.mq_end.specs.End.{is_live}
use Rattle.mq_end.specs.State.{EndState}
use Rattle.mq_world.specs.declared.side.Side.{Side}
use Rattle.mq_world.specs.Machine.{Machine, Opens, after}
use Rattle.mq_world.specs.Settling.{Idle, AllHanded, delivered, exchange, settled}
use Rattle.mq_world.specs.Carries.{Wired, IsSpanned, seen}
use Rattle.mq_world.specs.OverBytes.{Stands, near, far, facing, with_more, hearing, ReceivesAt, SameBounds}

-- The state after settling (4.4), compared with the one before.
pub record SettledFrom (old new : Wired) : Type 0 where
  -- neither side holds a message or a released identifier
  pub client_idle : Idle (seen new).client
  pub server_idle : Idle (seen new).server
  -- In each direction every accepted message was delivered.
  pub to_server : AllHanded (seen new).client (seen new).server
  pub to_client : AllHanded (seen new).server (seen new).client
  -- and nothing was accepted meanwhile
  pub client_same : new.client.accepted ≡ old.client.accepted
  pub server_same : new.server.accepted ≡ old.server.accepted
  -- Both sides are connected, and no bytes are in flight.
  pub client_up : new.client.state.end.state ≡ Connected
  pub server_up : new.server.state.end.state ≡ Connected
  pub client_bytes : new.client.state.held ++ new.client.wire ≡ []
  pub server_bytes : new.server.state.held ++ new.server.wire ≡ []

-- neither side holds a message
pub record HoldsNothing (world : Wired) : Type 0 where
  pub client : world.client.state.end.book.entries ≡ []
  pub server : world.server.state.end.book.entries ≡ []

-- The exchanges of a world over bytes are those of the machine.
pub record SettlesOver : Type 0 where
  -- All bytes in flight to a side with a connection arrive, and none of its allocations fails.
  pub deliver_all : (limit : Bounds) (capacity : ℕ) (side : Side) (world : Wired) (machine : Machine) (new : EndState) (happenings : List Happening)
      (acknowledged : List ℕ) (closed : Option CloseReason)
      → Stands limit capacity world machine → is_live (near side world).state.end.state ≡ true
      → ReceivesAt side (near side world).wire (near side world).state new happenings acknowledged closed → SameBounds (near side world).state new
      → closed ≢ Some reasons.Memory
      → Stands limit capacity (facing side (hearing [] new happenings acknowledged closed (near side world)) (with_more new.output (far side world))) (delivered side machine)
  -- all the bytes in flight to a side without a connection are lost
  pub lose_all : (limit : Bounds) (capacity : ℕ) (side : Side) (world : Wired) (machine : Machine) → Stands limit capacity world machine
      → is_live (near side world).state.end.state ≡ false
      → Stands limit capacity (facing side (record (near side world) { wire = [] }) (far side world)) (delivered side machine)
  -- The state after the third exchange of a new connection, and after the second if the capacity is
  -- at most the window.
  pub settles : (limit : Bounds) (capacity : ℕ) (world reached : Wired) (machine : Machine) → IsSpanned capacity world → Stands limit capacity world machine
      → Stands limit capacity reached (settled machine) → SettledFrom world reached
  pub second : (limit : Bounds) (capacity : ℕ) (world reached : Wired) (machine : Machine) → IsSpanned capacity world → Stands limit capacity world machine
      → Stands limit capacity reached (exchange (exchange (after machine Opens))) → HoldsNothing reached
