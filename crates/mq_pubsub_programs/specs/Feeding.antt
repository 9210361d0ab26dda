-- The messages that the source of `mqtt pub` gives.
use Rattle.std.specs.Prelude.{◌≡◌, ⊤, ℕ, ◌-◌, zero, suc, Bool, true, List, [], ◌++◌, map, drop, Option, Some, None}
use Rattle.mq_topic.specs.declared.qos.Qos.{Qos}
use Rattle.mq_packet.specs.declared.message.Message.{Message}
use Rattle.mq_pubsub_programs.specs.declared.feed.Supply.{Supply}
use Rattle.mq_pubsub_programs.specs.declared.feed.Supply.TheVariants as supplies
use Rattle.mq_pubsub_programs.specs.declared.known.Known.{Known}
use Rattle.mq_pubsub_programs.specs.declared.supply.InputLine.{InputLine}
use Rattle.mq_pubsub_programs.specs.declared.supply.InputLine.TheVariants as lines
use Rattle.mq_pubsub_programs.specs.declared.supply.InputLines.{InputLines}

-- the payloads, this many times
abbrev pub rounds_of : List (List ℕ) → ℕ → List (List ℕ)
rounds_of payloads zero = []
rounds_of payloads (suc count) = payloads ++ rounds_of payloads count

-- the payloads that are to come, in order
abbrev pub coming_payloads : Known → List (List ℕ)
coming_payloads known = drop known.index (rounds_of known.payloads.items (known.repeat - known.rounds))

-- An answer of a list of payloads, after which these are to come: it is the end only after all.
abbrev pub EndsWith : List (List ℕ) → InputLine → Type 0
EndsWith coming (lines.Line payload) = ⊤
EndsWith coming lines.Later = ⊥
EndsWith coming lines.End = coming ≡ []

-- a message of the options
abbrev pub message_of : List ℕ → Qos → Bool → List ℕ → Message
message_of topic qos retain payload = record { topic = topic; payload = payload; qos = qos; retain = retain }

-- The messages that are to come. Those of standard input are not known.
abbrev pub coming_of : List ℕ → Qos → Bool → Supply → Option (List Message)
coming_of topic qos retain (supplies.Known known) = Some (map (message_of topic qos retain) (coming_payloads known))
coming_of topic qos retain (supplies.Lines input) = None

-- The input has ended, and each of its lines was taken.
abbrev pub IsRead : InputLines → Type 0
IsRead input = (input.is_ended ≡ true) × (input.queue ≡ [])

-- no payload is left
abbrev pub IsUsedUp : Supply → Type 0
IsUsedUp (supplies.Known known) = coming_payloads known ≡ []
IsUsedUp (supplies.Lines input) = IsRead input
