-- Parts of a text, and the values in them.
use Rattle.std.specs.Prelude.{◌≡◌, ⊤, ℕ, ◌+◌, ◌^◌, ◌≤◌, ◌<◌, Bool, ◌==◌, ◌&&◌, not, nat_le, List, ◌∷◌, ◌++◌, [], length, Option, Some, None, Vec}
use Rattle.std.specs.List.{AllZip, slice_split}
use Rattle.std.specs.Borrow.{Bor}
use Rattle.std.specs.declared.alloc.Global.{Global}
use Rattle.hex.specs.Hex.{IsBytes}
use Rattle.mq_topic.specs.Topic.{IsTopicName}
use Rattle.mq_world.specs.declared.event.Event.TheVariants as events
use Rattle.mq_schedule.specs.declared.schedule.Step.{Step}
use Rattle.mq_schedule.specs.declared.schedule.Step.TheVariants.{Event, Settle}
use Rattle.mq_schedule.specs.Schedule.{IsNumber, Writes, words_of}

-- the parts of a text between bytes of a kind
abbrev pub parts : ℕ → List ℕ → List (List ℕ)
parts by text = slice_split (λ byte. byte == by) text

-- the remaining parts of a text, none after its last
abbrev pub parts_left : ℕ → Option (Bor (List ℕ)) → List (List ℕ)
parts_left by None = []
parts_left by (Some text) = parts by text.now

-- A value with this property, or none if no value has it.
abbrev pub Finds : {A : Type 0} → (A → Type 0) → Option A → Type 0
Finds {A} P None = (value : A) → ¬ P value
Finds P (Some value) = P value

-- Bytes with this property, or none if no bytes have it.
abbrev pub FindsBytes : {Z : Type 0} → (List ℕ → Type 0) → Option (Vec ℕ Z) → Type 0
FindsBytes P None = (bytes : List ℕ) → ¬ P bytes
FindsBytes P (Some bytes) = P bytes.items

-- a byte of a text that is printed as it is
abbrev pub is_plain : ℕ → Bool
is_plain byte = nat_le 33 byte && nat_le byte 126 && not (byte == 37)

-- a bound on the remaining length (2.2.3)
pub record IsLimit (value : ℕ) (word : List ℕ) : Type 0 where
  pub number : IsNumber value word
  pub least : 64 ≤ value
  pub most : value ≤ 268435455

-- The bounds of the parts of a step (2.2.3, 4.7).
abbrev pub KeepsBounds : Step → Type 0
KeepsBounds (Event (events.Publish side message)) = IsTopicName message.topic × IsBytes message.payload × (length message.payload < 2 ^ 28)
KeepsBounds (Event (events.Deliver side number)) = number < 2 ^ 64
KeepsBounds (Event (events.Drop side)) = ⊤
KeepsBounds (Event events.Restart) = ⊤
KeepsBounds (Event events.Leave) = ⊤
KeepsBounds (Event events.Open) = ⊤
KeepsBounds (Event (events.Tick side number)) = number < 2 ^ 64
KeepsBounds Settle = ⊤

-- each line is a step
abbrev pub AreSteps : List Step → List (List ℕ) → Type 0
AreSteps steps lines = AllZip (λ step line. Writes step (words_of line)) steps lines

-- Lines that are steps, followed by one that is not. The first line has the number 2.
pub record StopsAt (lines : List (List ℕ)) (number : ℕ) : Type 0 where
  pub steps : Vec Step Global
  pub front : List (List ℕ)
  pub line : List ℕ
  pub others : List (List ℕ)
  pub lines_are : lines ≡ front ++ line ∷ others
  pub place : number ≡ length front + 2
  pub before : AreSteps steps.items front
  pub no_step : (step : Step) → ¬ Writes step (words_of line)
