-- The events that are generated, as they are printed.
use Rattle.std.specs.Prelude.{ℕ, List}
use Rattle.mq_world.specs.declared.event.Event.{Event}
use Rattle.mq_world.specs.declared.event.Event.TheVariants as events
use Rattle.mq_world.specs.MadeUp.{made_message}
use Rattle.mq_schedule.specs.declared.schedule.Step.TheVariants as steps
use Rattle.mq_schedule.specs.Writing.{step_line}
use Rattle.mq_cli.specs.declared.random.Made.{Made}
use Rattle.mq_cli.specs.declared.random.Made.TheVariants.{Publish, Deliver, Drop, Leave, Open, Tick}

-- the event of this number
abbrev pub event_of : Made → ℕ → Event
event_of (Publish side qos) number = events.Publish side (made_message qos number)
event_of (Deliver side count) number = events.Deliver side count
event_of (Drop side) number = events.Drop side
event_of Leave number = events.Leave
event_of Open number = events.Open
event_of (Tick side more) number = events.Tick side more

-- its line in a schedule
abbrev pub event_line : Made → ℕ → List ℕ
event_line made number = step_line (steps.Event (event_of made number))
