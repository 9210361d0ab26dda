-- Packet identifiers over every run (2.3.1).
use Rattle.std.specs.Prelude.{ℕ, ◌≡◌, true, Option, List}
use Rattle.mq_packet.specs.declared.message.Message.{Message}
use Rattle.mq_flow.specs.Laws.{IsSound, IsGiven}
use Rattle.mq_end.specs.Both.{has_identifier}
use Rattle.mq_world.specs.declared.side.Side.{Side}
use Rattle.mq_world.specs.declared.side.Side.TheVariants.{Client, Server}
use Rattle.mq_world.specs.Half.{Half, Publishes}
use Rattle.mq_world.specs.Machine.{Machine, Move, By, Run, IsAllowed, after, blank_machine}

-- a side of the machine
abbrev pub half_of : Side → Machine → Half
half_of Client machine = machine.client
half_of Server machine = machine.server

-- The identifiers of every run, and a newly assigned one (2.3.1).
pub record IdentifiersLaw : Type 0 where
  -- at each side those in use are from 1 to 65,535, each in use once, and within the capacity
  pub sound : (limit capacity : ℕ) (window : Option ℕ) (moves : List Move) (machine : Machine) → Run limit capacity (blank_machine window) moves machine
      → (side : Side) → IsSound capacity (half_of side machine).end.book
  -- an identifier that a message is given was not in use, and there is room for it
  pub given : (limit capacity id : ℕ) (message : Message) (side : Side) (machine : Machine) → IsAllowed limit capacity machine (By side (Publishes id message))
      → has_identifier message.qos ≡ true
      → IsGiven capacity (half_of side machine).end.book (half_of side (after machine (By side (Publishes id message)))).end.book id
