-- Two ends that are joined by two wires of bytes, and the machine that they carry.
use Rattle.std.specs.Prelude.{ℕ, ◌≡◌, ◌⊎◌, Bool, true, Option, None, Some, List, [], ◌∷◌, ◌++◌, replicate, nat_le}
use Rattle.mq_packet.specs.declared.message.Message.{Message}
use Rattle.mq_packet.specs.declared.packet.Packet.{Packet}
use Rattle.mq_decode.specs.Limits.{Bounds}
use Rattle.mq_flow.specs.Window.{Spans}
use Rattle.mq_decode.specs.Grammar.{Stream, Pending}
use Rattle.mq_end.specs.declared.reason.CloseReason.{CloseReason}
use Rattle.mq_end.specs.declared.reason.CloseReason.TheVariants as reasons
use Rattle.mq_end.specs.End.{is_live}
use Rattle.mq_end.specs.Sizes.{publish_size}
use Rattle.mq_end.specs.State.{EndState}
use Rattle.mq_world.specs.declared.side.Side.{Side}
use Rattle.mq_world.specs.Half.{Accepted, HandedOn, Half, Arrives, Drops}
use Rattle.mq_world.specs.Machine.{Machine, Move, By, Run, blank_machine}

-- A side of the world: its end, its clock in milliseconds, the bytes in flight to it, the oldest
-- first (4.6), and the lists of the run.
pub record WiredSide : Type 0 where
  pub state : EndState
  pub clock : ℕ
  pub wire : List ℕ
  pub accepted : Accepted
  pub handed : HandedOn
  pub freed : List ℕ

-- the world
pub record Wired : Type 0 where
  pub client : WiredSide
  pub server : WiredSide

-- A side of the world carries a side of the machine: ends and lists are the same, no output is
-- pending, no room is reserved, and if there is a connection, the held bytes followed by those in
-- flight encode the packets of the queue.
pub record CarriesSide (limit : Bounds) (capacity : ℕ) (wired : WiredSide) (half : Half) : Type 0 where
  pub end : wired.state.end ≡ half.end
  pub bytes : is_live half.end.state ≡ true → Stream limit half.coming (wired.state.held ++ wired.wire)
  pub output : wired.state.output ≡ []
  pub reserved : wired.state.room.bytes ≡ 0
  pub limits : wired.state.limit ≡ limit
  pub room : wired.state.capacity ≡ capacity
  pub accepted : wired.accepted ≡ half.accepted
  pub handed : wired.handed ≡ half.handed
  pub freed : wired.freed ≡ half.freed

pub record Carries (limit : Bounds) (capacity : ℕ) (world : Wired) (machine : Machine) : Type 0 where
  pub client : CarriesSide limit capacity world.client machine.client
  pub server : CarriesSide limit capacity world.server machine.server

-- the machine is one that a run reaches
abbrev pub Reached : ℕ → ℕ → Machine → Type 0
Reached limit capacity machine = (window : Option ℕ) × (moves : List Move) × Run limit capacity (blank_machine window) moves machine

-- the capacity is at most the window of each side that has one
abbrev pub IsSpanned : ℕ → Wired → Type 0
IsSpanned capacity world = Spans world.client.state.end.window capacity × Spans world.server.state.end.window capacity

-- Both sides have this receive window.
abbrev pub HaveWindow : Option ℕ → Wired → Type 0
HaveWindow window world = (world.client.state.end.window ≡ window) × (world.server.state.end.window ≡ window)

-- the remaining length of the PUBLISH of a message is within the limit (2.2.3, 3.3)
abbrev pub fits : ℕ → Message → Bool
fits limit message = nat_le (publish_size message) limit

-- the side as one of a machine
abbrev pub seen_side : WiredSide → Half
seen_side wired = record { end = wired.state.end; coming = []; accepted = wired.accepted; handed = wired.handed; freed = wired.freed }

-- the world as a machine
abbrev pub seen : Wired → Machine
seen world = record { client = seen_side world.client; server = seen_side world.server }

-- ---- bytes that come

-- The packets that arrive with bytes: all complete ones if the end doesn't close, otherwise those
-- up to the one at which it closes (4.6).
pub record Comes (limit : Bounds) (bytes : List ℕ) (closed : Option CloseReason) (packets : List Packet) : Type 0 where
  pub front : List ℕ
  pub rest : List ℕ
  pub stream : Stream limit packets front
  pub parts : bytes ≡ front ++ rest
  pub all : closed ≡ None → Pending limit rest

-- These moves are one arrival for each packet. If an allocation failed, the connection is lost
-- after them.
abbrev pub AreArrivals : Side → ℕ → Option CloseReason → List Move → Type 0
AreArrivals side count closed moves = (moves ≡ replicate count (By side Arrives))
    ⊎ ((closed ≡ Some reasons.Memory) × (moves ≡ replicate count (By side Arrives) ++ By side Drops ∷ []))
