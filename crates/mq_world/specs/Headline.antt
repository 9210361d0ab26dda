-- The promise of every run (4.3).
use Rattle.std.specs.Prelude.{ℕ, ◌+◌, ◌≡◌, ◌≤◌, Option, List, ◌++◌, length}
use Rattle.mq_topic.specs.declared.qos.Qos.TheVariants.{Q1, Q2}
use Rattle.mq_packet.specs.declared.message.Message.{Message}
use Rattle.mq_flow.specs.Sender.{held}
use Rattle.mq_world.specs.Half.{Half}
use Rattle.mq_world.specs.Machine.{Machine, Move, Run, blank_machine}
use Rattle.mq_world.specs.Orders.{Beginning, Part, Walk, IsAt, AllIn, others, messages}

-- At most once (4.3.1): the receiver delivered only messages that the sender accepted, in order,
-- and none twice; some may be lost.
abbrev pub AtMostOnce : Half → Half → Type 0
AtMostOnce sender receiver = Part receiver.handed.at_most_once sender.accepted.at_most_once

-- At least once (4.3.2): the receiver delivered only messages that the sender accepted, each for
-- the first time after all before it, and perhaps again later. Each message that was acknowledged
-- to the sender was delivered, and the sender stores all the others, in order.
pub record AtLeastOnce (sender receiver : Half) : Type 0 where
  pub places : List ℕ
  pub walk : Walk places
  pub are : IsAt receiver.handed.at_least_once (messages sender.accepted.at_least_once) places
  pub freed : AllIn sender.freed places
  pub rest : others sender.freed sender.accepted.at_least_once ≡ held Q1 sender.end.book.entries

-- Exactly once (4.3.3): the messages that the receiver delivered are a prefix of those that the
-- sender accepted, so none is delivered twice or out of order. The others are at the end of that
-- list, and the sender stores them.
pub record ExactlyOnce (sender receiver : Half) : Type 0 where
  pub beginning : Beginning receiver.handed.exactly_once sender.accepted.exactly_once
  pub before : List Message
  pub last : sender.accepted.exactly_once ≡ before ++ messages (held Q2 sender.end.book.entries)
  pub lack : length sender.accepted.exactly_once ≤ length receiver.handed.exactly_once + length (held Q2 sender.end.book.entries)

-- all of it, in both directions (4.3)
pub record Headline (machine : Machine) : Type 0 where
  pub to_server_0 : AtMostOnce machine.client machine.server
  pub to_client_0 : AtMostOnce machine.server machine.client
  pub to_server_1 : AtLeastOnce machine.client machine.server
  pub to_client_1 : AtLeastOnce machine.server machine.client
  pub to_server_2 : ExactlyOnce machine.client machine.server
  pub to_client_2 : ExactlyOnce machine.server machine.client

-- over every run, for every window, whatever is published, comes, is lost, and is opened again
abbrev pub HeadlineLaw : Type 0
HeadlineLaw = (limit capacity : ℕ) (window : Option ℕ) (moves : List Move) (machine : Machine)
    → Run limit capacity (blank_machine window) moves machine → Headline machine
