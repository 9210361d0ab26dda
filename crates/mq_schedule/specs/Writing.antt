-- The text form of schedules: one way to write each step, and each line with its end.
use Rattle.std.specs.Prelude.{ℕ, Option, Some, None, List, [], ◌∷◌, ◌++◌, codes, decimal}
use Rattle.std.specs.List.{flat_map}
use Rattle.std.specs.Int.NonZero.{non_zero_u16_get}
use Rattle.mq_topic.specs.Qos.{qos_number}
use Rattle.mq_world.specs.declared.event.Event.TheVariants as events
use Rattle.mq_packet.specs.Lines.{escaped}
use Rattle.mq_schedule.specs.declared.schedule.Step.{Step}
use Rattle.mq_schedule.specs.declared.schedule.Step.TheVariants.{Event, Settle}
use Rattle.mq_schedule.specs.declared.schedule.Schedule.{Schedule}
use Rattle.mq_schedule.specs.Schedule.{bytes_word, number_of, publish_word, side_word}

-- words, one space between each two, and the end of the line
abbrev pub line_with : List (List ℕ) → List ℕ
line_with [] = codes "\n"
line_with (word ∷ []) = word ++ codes "\n"
line_with (word ∷ next ∷ words) = word ++ (codes " " ++ line_with (next ∷ words))

-- A word for the receive window, if there is one.
abbrev pub window_words : Option ℕ → List (List ℕ)
window_words None = []
window_words (Some window) = decimal window ∷ []

abbrev pub world_words : Schedule → List (List ℕ)
world_words schedule = codes "world" ∷ decimal schedule.limits.most ∷ decimal (non_zero_u16_get schedule.capacity) ∷ window_words (number_of schedule.window)

-- numbers have no zeros in front, and a delivery always has one
abbrev pub step_words : Step → List (List ℕ)
step_words (Event (events.Publish side message)) = publish_word message.retain ∷ side_word side ∷ decimal (qos_number message.qos) ∷ escaped message.topic ∷ bytes_word message.payload ∷ []
step_words (Event (events.Deliver side number)) = codes "to" ∷ side_word side ∷ decimal number ∷ []
step_words (Event (events.Drop side)) = codes "drop" ∷ side_word side ∷ []
step_words (Event events.Restart) = codes "restart" ∷ []
step_words (Event events.Leave) = codes "leave" ∷ []
step_words (Event events.Open) = codes "open" ∷ []
step_words (Event (events.Tick side number)) = codes "tick" ∷ side_word side ∷ decimal number ∷ []
step_words Settle = codes "settle" ∷ []

abbrev pub step_line : Step → List ℕ
step_line step = line_with (step_words step)

abbrev pub schedule_text : Schedule → List ℕ
schedule_text schedule = line_with (world_words schedule) ++ flat_map step_line schedule.steps.items
