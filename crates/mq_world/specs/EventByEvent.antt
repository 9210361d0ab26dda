-- Event by event: the events of a world and their answers are a run of the machine, and its lists
-- are those that the answers report (4.3).
use Rattle.std.specs.Prelude.{ℕ, ◌≡◌, Bool, true, false, if◌then◌else◌, Option, None, Some, Ok, List, ◌∷◌}
use Rattle.mq_packet.specs.declared.message.Message.{Message}
use Rattle.mq_decode.specs.Limits.{Bounds}
use Rattle.mq_end.specs.declared.progress.Progress.{Progress}
use Rattle.mq_world.specs.declared.side.Side.{Side}
use Rattle.mq_world.specs.declared.side.Side.TheVariants.{Client, Server}
use Rattle.mq_world.specs.declared.event.Event.{Event}
use Rattle.mq_world.specs.declared.event.Event.TheVariants as events
use Rattle.mq_world.specs.declared.answer.Answer.{Answer}
use Rattle.mq_world.specs.declared.answer.Answer.TheVariants as answers
use Rattle.mq_world.specs.Half.{Accepted, HandedOn, Half, accepted_with, freed_with}
use Rattle.mq_world.specs.Machine.{Machine, Move}
use Rattle.mq_world.specs.Carries.{Wired}
use Rattle.mq_world.specs.OverBytes.{Stands, Follows, handed_with}
use Rattle.mq_world.specs.World.{Leads}

-- The lists of a side: the messages that it accepted, those that it delivered, and the places of
-- those that were acknowledged to it (4.3).
pub record Lists : Type 0 where
  pub accepted : Accepted
  pub handed : HandedOn
  pub freed : List ℕ

-- those of a side of the machine
abbrev pub lists_of : Half → Lists
lists_of half = record { accepted = half.accepted; handed = half.handed; freed = half.freed }

abbrev pub is_same : Side → Side → Bool
is_same Client Client = true
is_same Client Server = false
is_same Server Client = false
is_same Server Server = true

-- The packet identifier of an answer, if it has one (2.3.1).
abbrev pub identifier_in : Option ℕ → ℕ
identifier_in None = 0
identifier_in (Some id) = id

-- the lists with a message more that is accepted
abbrev pub with_accepted : Message → Option ℕ → Lists → Lists
with_accepted message id lists = record lists { accepted = accepted_with message.qos (identifier_in id) message lists.accepted }

-- The lists after bytes arrived: reported messages are delivered, and acknowledged ones are freed.
abbrev pub with_progress : Progress → Lists → Lists
with_progress progress lists =
    record lists { handed = handed_with progress.happenings lists.handed; freed = freed_with lists.accepted.at_least_once progress.acknowledged lists.freed }

-- The lists of a side after an event, by its answer: a message that the side accepted, or the
-- effect of bytes that arrived at it. Nothing else changes a list.
abbrev pub told_by : Side → Event → Answer → Lists → Lists
told_by side (events.Publish at message) (answers.Published from (Ok id)) lists = if is_same side at then with_accepted message id lists else lists
told_by side (events.Deliver at count) (answers.Delivered delivery) lists = if is_same side at then with_progress delivery.progress lists else lists
told_by side event answer lists = lists

-- and after events, one after another
abbrev pub told_by_all : Side → List Event → List Answer → Lists → Lists
told_by_all side (event ∷ later) (answer ∷ rest) lists = told_by_all side later rest (told_by side event answer lists)
told_by_all side later rest lists = lists

-- These moves lead to a machine that the world carries, and its lists are the previous ones,
-- followed by those that the answers report.
pub record Tells (limit : Bounds) (capacity : ℕ) (machine : Machine) (events : List Event) (answers : List Answer) (world : Wired) : Type 0 where
  pub moves : List Move
  pub follows : Follows limit capacity machine moves world
  pub client : lists_of follows.machine.client ≡ told_by_all Client events answers (lists_of machine.client)
  pub server : lists_of follows.machine.server ≡ told_by_all Server events answers (lists_of machine.server)

-- For every machine that a world carries, over every list of events with their answers.
abbrev pub EventByEvent : Type 0
EventByEvent = (limit : Bounds) (capacity : ℕ) (events : List Event) (answers : List Answer) (old new : Wired) (machine : Machine)
    → Stands limit capacity old machine → Leads limit capacity events answers old new → Tells limit capacity machine events answers new
