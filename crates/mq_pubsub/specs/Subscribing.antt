-- Which messages a subscriber prints, and when its run ends.
use Rattle.std.specs.Prelude.{◌≡◌, ℕ, ◌-◌, nat_le, ◌&&◌, ◌||◌, not, Bool, true, if◌then◌else◌, List, [], ◌∷◌, ◌++◌, Option, Some, None}
use Rattle.std.specs.List.{list_any}
use Rattle.mq_topic.specs.Matching.{is_match}
use Rattle.mq_packet.specs.declared.message.Message.{Message}
use Rattle.mq_end.specs.declared.happening.Happening.{Happening}
use Rattle.mq_end.specs.declared.happening.Happening.TheVariants as happens
use Rattle.mq_pubsub.specs.declared.choice.Choice.{Choice}
use Rattle.mq_pubsub.specs.declared.choice.Verdict.{Verdict}
use Rattle.mq_pubsub.specs.declared.choice.Verdict.TheVariants as verdicts
use Rattle.mq_pubsub.specs.declared.inbox.Inbox.{Inbox}

-- ---- one message

-- `-T`: a filter excludes the topic (4.7)
abbrev pub excludes : Choice → Message → Bool
excludes choice message = list_any (λ filter. is_match filter message.topic) choice.excluded.now

-- `--retained-only` ends at the first message that is not retained. `-R` skips retained messages.
abbrev pub verdict_of : Choice → Message → Verdict
verdict_of choice message =
    if choice.only_retained && not message.retain then verdicts.End
    else (if (choice.skips_retained && message.retain) || excludes choice message then verdicts.Skip
    else verdicts.Print)

-- `-C`: a message is printed, and the run ends if it was the last one
abbrev pub counts : Option ℕ → Inbox → Inbox
counts None inbox = inbox
counts (Some left) inbox = record inbox { left = Some (left - 1); is_ended = nat_le left 1 }

-- what a verdict does
abbrev pub judged : Verdict → Inbox → Inbox
judged verdicts.Print inbox = counts inbox.left inbox
judged verdicts.Skip inbox = inbox
judged verdicts.End inbox = record inbox { is_ended = true }

abbrev pub printed : Verdict → Message → List Message
printed verdicts.Print message = message ∷ []
printed verdicts.Skip message = []
printed verdicts.End message = []

-- Once the run has ended nothing is printed.
abbrev pub delivers : Choice → Inbox → Message → Inbox
delivers choice inbox message = if inbox.is_ended then inbox else judged (verdict_of choice message) inbox

abbrev pub prints : Choice → Inbox → Message → List Message
prints choice inbox message = if inbox.is_ended then [] else printed (verdict_of choice message) message

-- ---- happenings

-- CONNACK: the subscriptions are requested, unless they were granted in a session that the server
-- still has (3.2.2.2).
abbrev pub connects : Bool → Inbox → Inbox
connects present inbox = record inbox { is_granted = inbox.is_granted && present; is_due = not (inbox.is_granted && present) }

-- `-E`: the run ends once the subscriptions are granted
abbrev pub granted : Bool → Inbox → Inbox
granted ends inbox = record inbox { is_granted = true; is_ended = inbox.is_ended || ends }

-- the state after a happening, and the messages that it prints
abbrev pub state_after : Choice → Bool → Inbox → Happening → Inbox
state_after choice ends inbox (happens.Up present) = connects present inbox
state_after choice ends inbox (happens.Handed message) = delivers choice inbox message
state_after choice ends inbox (happens.SubAck id codes) = granted ends inbox
state_after choice ends inbox (happens.UnsubAck id) = if inbox.only_gives_up then granted ends inbox else inbox
state_after choice ends inbox (happens.Subscribe id requests) = inbox
state_after choice ends inbox (happens.Unsubscribe id filters) = inbox
state_after choice ends inbox happens.Pong = inbox

abbrev pub prints_at : Choice → Inbox → Happening → List Message
prints_at choice inbox (happens.Handed message) = prints choice inbox message
prints_at choice inbox (happens.Up present) = []
prints_at choice inbox (happens.SubAck id codes) = []
prints_at choice inbox (happens.UnsubAck id) = []
prints_at choice inbox (happens.Subscribe id requests) = []
prints_at choice inbox (happens.Unsubscribe id filters) = []
prints_at choice inbox happens.Pong = []

-- Happenings in order lead from one state to another, and these messages are printed, in order.
abbrev pub Prints : Choice → Bool → Inbox → List Happening → Inbox → List Message → Type 0
Prints choice ends inbox [] later messages = (later ≡ inbox) × (messages ≡ [])
Prints choice ends inbox (happening ∷ others) later messages =
    (rest : List Message) × (messages ≡ prints_at choice inbox happening ++ rest)
    × Prints choice ends (state_after choice ends inbox happening) others later rest
