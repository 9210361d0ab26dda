-- A new connection and three exchanges settle everything (4.4).
use Rattle.std.specs.Prelude.{ℕ, zero, suc, ◌≡◌, ◌<◌, Option, List, [], length}
use Rattle.mq_packet.specs.declared.packet.Packet.{Packet}
use Rattle.mq_flow.specs.Window.{Spans}
use Rattle.mq_end.specs.declared.state.State.TheVariants.{Connected}
use Rattle.mq_world.specs.declared.side.Side.{Side}
use Rattle.mq_world.specs.declared.side.Side.TheVariants.{Client, Server}
use Rattle.mq_world.specs.Half.{Half, Arrives}
use Rattle.mq_world.specs.Machine.{Machine, Move, By, Opens, Run, after, blank_machine}
use Rattle.mq_world.specs.Orders.{Walk, IsAt, In, messages}

-- the queue toward a side
abbrev pub queue : Side → Machine → List Packet
queue Client machine = machine.client.coming
queue Server machine = machine.server.coming

-- Several packets arrive, one after another.
abbrev pub arrivals : ℕ → Side → Machine → Machine
arrivals zero side machine = machine
arrivals (suc count) side machine = arrivals count side (after machine (By side Arrives))

-- The whole queue toward a side arrives.
abbrev pub delivered : Side → Machine → Machine
delivered side machine = arrivals (length (queue side machine)) side machine

-- The whole queue toward the server arrives, then that toward the client.
abbrev pub exchange : Machine → Machine
exchange machine = delivered Client (delivered Server machine)

-- a new connection, and three exchanges
abbrev pub settled : Machine → Machine
settled machine = exchange (exchange (exchange (after machine Opens)))

-- nothing of a side's own waits for the other: it holds no message, and no identifier is released
-- (4.3)
pub record Idle (half : Half) : Type 0 where
  pub entries : half.end.book.entries ≡ []
  pub released : half.end.book.released ≡ []

-- The receiver delivered each message that the sender accepted: QoS 2 once (4.3.3), QoS 1 at least
-- once (4.3.2).
pub record AllHanded (sender receiver : Half) : Type 0 where
  pub exactly_once : receiver.handed.exactly_once ≡ sender.accepted.exactly_once
  pub places : List ℕ
  pub walk : Walk places
  pub are : IsAt receiver.handed.at_least_once (messages sender.accepted.at_least_once) places
  pub each : (place : ℕ) → place < length sender.accepted.at_least_once → In place places

-- The state after settling (4.4).
pub record Settles (machine : Machine) : Type 0 where
  pub client_idle : Idle (settled machine).client
  pub server_idle : Idle (settled machine).server
  pub to_server : AllHanded (settled machine).client (settled machine).server
  pub to_client : AllHanded (settled machine).server (settled machine).client
  pub client_same : (settled machine).client.accepted ≡ machine.client.accepted
  pub server_same : (settled machine).server.accepted ≡ machine.server.accepted
  -- Both sides are connected, and nothing is in flight.
  pub client_up : (settled machine).client.end.state ≡ Connected
  pub server_up : (settled machine).server.end.state ≡ Connected
  pub client_queue : (settled machine).client.coming ≡ []
  pub server_queue : (settled machine).server.coming ≡ []
  -- for the messages two exchanges are enough, the third is for the released identifiers
  pub client_second : (exchange (exchange (after machine Opens))).client.end.book.entries ≡ []
  pub server_second : (exchange (exchange (after machine Opens))).server.end.book.entries ≡ []

-- From every machine that a run reaches, if there is no window or one that is at least the
-- capacity.
abbrev pub SettlingLaw : Type 0
SettlingLaw =
    (limit capacity : ℕ) (window : Option ℕ) (moves : List Move) (machine : Machine) → Spans window capacity
    → Run limit capacity (blank_machine window) moves machine → Settles machine
