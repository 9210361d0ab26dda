-- Events that are generated for tests, each from a word of 32 bits and its number.
use Rattle.std.specs.Prelude.{ℕ, zero, suc, ◌/◌, ◌%◌, ◌==◌, false, if◌then◌else◌, nat_lt, List, [], ◌∷◌}
use Rattle.std.specs.Int.{w32, to_be_bytes}
use Rattle.rand_pcg.specs.Lcg.{Lcg, started, increment_of}
use Rattle.rand_pcg.specs.Pcg.{multiplier_64, pcg32}
use Rattle.mq_topic.specs.declared.qos.Qos.{Qos}
use Rattle.mq_topic.specs.declared.qos.Qos.TheVariants.{Q0, Q1, Q2}
use Rattle.mq_packet.specs.declared.message.Message.{Message}
use Rattle.mq_world.specs.declared.side.Side.{Side}
use Rattle.mq_world.specs.declared.side.Side.TheVariants.{Client, Server}
use Rattle.mq_world.specs.declared.event.Event.{Event}
use Rattle.mq_world.specs.declared.event.Event.TheVariants as events

-- the side of a word: the bit above those of its kind
abbrev pub made_side : ℕ → Side
made_side word = if word / 8 % 2 == 0 then Client else Server

-- the quality of service of a number (4.3)
abbrev pub made_qos : ℕ → Qos
made_qos value = if value % 3 == 0 then Q0 else (if value % 3 == 1 then Q1 else Q2)

-- The message of a step: the topic `t`, and as the payload the step's number in four bytes, the
-- high byte first.
abbrev pub made_message : Qos → ℕ → Message
made_message qos number = record { topic = 116 ∷ []; payload = to_be_bytes w32 number; qos = qos; retain = false }

-- the connection of a side is lost, or one time in four the user of the client leaves (3.14)
abbrev pub made_loss : Side → ℕ → Event
made_loss side value = if value % 4 == 0 then events.Leave else events.Drop side

-- The event of the step with this number, by its kind from 0 to 7, its side and a value: of the
-- eight kinds two are messages, three are deliveries, and one each is a lost connection, an
-- opening, and passing time.
abbrev pub event_of_kind : ℕ → Side → ℕ → ℕ → Event
event_of_kind kind side value number =
    if nat_lt kind 2 then events.Publish side (made_message (made_qos value) number)
    else (if nat_lt kind 5 then events.Deliver side (value % 32)
    else (if kind == 5 then made_loss side value
    else (if kind == 6 then events.Open
    else events.Tick side (value % 1000))))

-- The event of a step, by its word: three bits for the kind, one for the side, and the others for
-- the value.
abbrev pub made_event : ℕ → ℕ → Event
made_event word number = event_of_kind (word % 8) (made_side word) (word / 16) number

-- `steps` events from the step with this number on, each by the next word of a generator.
unfoldable pub made_from : Lcg → ℕ → ℕ → List Event
made_from generator number zero = []
made_from generator number (suc steps) = made_event (pcg32 generator).0 number ∷ made_from (pcg32 generator).1 (suc number) steps

-- The events of the generator with this start value.
abbrev pub made_up : ℕ → ℕ → List Event
made_up start steps = made_from (started 64 multiplier_64 start (increment_of 64 1)) 0 steps
