-- Schedules as they are written: a line for the world, and one for each step.
use Rattle.std.specs.Prelude.{◌≡◌, ◌⊎◌, ℕ, ◌+◌, ◌-◌, ◌^◌, ◌≤◌, ◌<◌, ◌==◌, Bool, true, false, List, [], ◌∷◌, ◌++◌, length, codes, Option, Some, None}
use Rattle.std.specs.List.{AllZip, slice_split}
use Rattle.std.specs.Int.NonZero.{non_zero_u16_get}
use Rattle.std.specs.Option.{option_map}
use Rattle.std.specs.declared.num.NonZeroU16.{NonZeroU16}
use Rattle.std.specs.Io.BufRead.{strip_last}
use Rattle.std.specs.Str.Parse.{IsNumeral, digits_value}
use Rattle.hex.specs.Hex.{IsBytes}
use Rattle.mq_topic.specs.Qos.{qos_number}
use Rattle.mq_topic.specs.Topic.{IsTopicName}
use Rattle.mq_packet.specs.declared.message.Message.{Message}
use Rattle.mq_world.specs.declared.side.Side.{Side}
use Rattle.mq_world.specs.declared.side.Side.TheVariants.{Client, Server}
use Rattle.mq_world.specs.declared.event.Event.TheVariants as events
use Rattle.mq_packet.specs.Lines.{escaped, hex_of}
use Rattle.mq_schedule.specs.declared.schedule.Step.{Step}
use Rattle.mq_schedule.specs.declared.schedule.Step.TheVariants.{Event, Settle}
use Rattle.mq_schedule.specs.declared.schedule.Schedule.{Schedule}

-- ---- lines and words

-- the lines of a text, each with a line feed at its end, which the last one may lack
abbrev pub lines_of : List ℕ → List (List ℕ)
lines_of text = slice_split (λ byte. byte == 10) (strip_last 10 text)

-- the words of a line, parted by one space each
abbrev pub words_of : List ℕ → List (List ℕ)
words_of line = slice_split (λ byte. byte == 32) line

-- decimal digits, one or more, of a number of 64 bits
pub record IsNumber (number : ℕ) (word : List ℕ) : Type 0 where
  pub digits : IsNumeral 10 word
  pub value : digits_value 10 word ≡ number
  pub bound : number < 2 ^ 64

abbrev pub side_word : Side → List ℕ
side_word Client = codes "c"
side_word Server = codes "s"

-- with RETAIN 0, and with RETAIN 1
abbrev pub publish_word : Bool → List ℕ
publish_word false = codes "pub"
publish_word true = codes "pubr"

-- Bytes as hexadecimal digits, or `-` for none.
abbrev pub bytes_word : List ℕ → List ℕ
bytes_word [] = codes "-"
bytes_word (byte ∷ bytes) = hex_of (byte ∷ bytes)

-- A number of bytes, or the maximum.
abbrev pub IsAmount : ℕ → List ℕ → Type 0
IsAmount number word = IsNumber number word ⊎ ((word ≡ codes "all") × (number ≡ 2 ^ 64 - 1))

-- ---- steps

-- a side, a quality of service, a topic name as it is printed, and a payload
pub record IsPublication (side : Side) (message : Message) (words : List (List ℕ)) : Type 0 where
  pub qos : List ℕ
  pub number : IsNumber (qos_number message.qos) qos
  pub topic : IsTopicName message.topic
  pub payload : IsBytes message.payload
  pub size : length message.payload < 2 ^ 28
  pub words_are : words ≡ publish_word message.retain ∷ side_word side ∷ qos ∷ escaped message.topic ∷ bytes_word message.payload ∷ []

-- a step in words
abbrev pub Writes : Step → List (List ℕ) → Type 0
Writes (Event (events.Publish side message)) words = IsPublication side message words
Writes (Event (events.Deliver side number)) words = (amount : List ℕ) × IsAmount number amount × (words ≡ codes "to" ∷ side_word side ∷ amount ∷ [])
Writes (Event (events.Drop side)) words = words ≡ codes "drop" ∷ side_word side ∷ []
Writes (Event events.Restart) words = words ≡ codes "restart" ∷ []
Writes (Event events.Leave) words = words ≡ codes "leave" ∷ []
Writes (Event events.Open) words = words ≡ codes "open" ∷ []
Writes (Event (events.Tick side number)) words = (ms : List ℕ) × IsNumber number ms × (words ≡ codes "tick" ∷ side_word side ∷ ms ∷ [])
Writes Settle words = words ≡ codes "settle" ∷ []

-- ---- schedules

-- the number that there may be
abbrev pub number_of : Option NonZeroU16 → Option ℕ
number_of value = option_map non_zero_u16_get value

-- A word for the receive window (4.3.3), and none without one.
abbrev pub IsWindow : Option ℕ → List (List ℕ) → Type 0
IsWindow None words = words ≡ []
IsWindow (Some window) words = (word : List ℕ) × IsNumber window word × (1 ≤ window) × (window ≤ 65535) × (words ≡ word ∷ [])

-- the bound on the remaining length (2.2.3), how many packet identifiers may be in use at a side
-- (2.3.1), and how many messages of quality of service 2 a side has in its receiving window at
-- most, if it has one
pub record IsWorldLine (limit capacity : ℕ) (window : Option ℕ) (words : List (List ℕ)) : Type 0 where
  pub most : List ℕ
  pub room : List ℕ
  pub last : List (List ℕ)
  pub limit_is : IsNumber limit most
  pub capacity_is : IsNumber capacity room
  pub least_limit : 64 ≤ limit
  pub most_limit : limit ≤ 268435455
  pub least_capacity : 1 ≤ capacity
  pub most_capacity : capacity ≤ 65535
  pub window_is : IsWindow window last
  pub words_are : words ≡ codes "world" ∷ most ∷ room ∷ last

-- the line for the world, and then a line for each step
pub record IsSchedule (lines : List (List ℕ)) (schedule : Schedule) : Type 0 where
  pub first : List ℕ
  pub others : List (List ℕ)
  pub lines_are : lines ≡ first ∷ others
  pub world : IsWorldLine schedule.limits.most (non_zero_u16_get schedule.capacity) (number_of schedule.window) (words_of first)
  pub steps : AllZip (λ step line. Writes step (words_of line)) schedule.steps.items others

-- the first line is not a line for a world
pub record HasNoWorld (lines : List (List ℕ)) : Type 0 where
  pub first : List ℕ
  pub others : List (List ℕ)
  pub lines_are : lines ≡ first ∷ others
  pub no_world : (limit capacity : ℕ) (window : Option ℕ) → ¬ IsWorldLine limit capacity window (words_of first)

-- the lines before this one, counted from 1, are a schedule, and this one is no step
pub record HasNoStep (lines : List (List ℕ)) (number : ℕ) : Type 0 where
  pub schedule : Schedule
  pub front : List (List ℕ)
  pub line : List ℕ
  pub others : List (List ℕ)
  pub lines_are : lines ≡ front ++ line ∷ others
  pub place : number ≡ length front + 1
  pub before : IsSchedule front schedule
  pub no_step : (step : Step) → ¬ Writes step (words_of line)

-- the number of the first line that is of no kind, counted from 1
abbrev pub IsBadLine : List (List ℕ) → ℕ → Type 0
IsBadLine lines number = ((number ≡ 1) × HasNoWorld lines) ⊎ HasNoStep lines number
