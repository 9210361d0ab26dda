-- The effect of a run of `mqtt pub` whose exit status is 0.
use Rattle.std.specs.Prelude.{◌≡◌, ◌≢◌, ⊤, ℕ, Bool, true, false, List, [], ◌∷◌, map, Option}
use Rattle.mq_packet.specs.declared.message.Message.{Message}
use Rattle.mq_client.specs.Course.{IsIdle, Leaves, Moment}
use Rattle.mq_pubsub_options.specs.declared.publishing.Payloads.{Payloads}
use Rattle.mq_pubsub_options.specs.declared.publishing.Payloads.TheVariants as payloads
use Rattle.mq_pubsub_options.specs.declared.publishing.PublishWords.{PublishWords}
use Rattle.mq_pubsub_runs.specs.Posting.{AllPosted, Posted}
use Rattle.mq_pubsub_programs.specs.Feeding.{message_of, rounds_of}

-- the payloads of one round: the texts of `-m`, the bytes of a file (`-f`) or of standard input
-- (`-s`), or one empty payload (`-n`)
abbrev pub AreWanted : Payloads → List (List ℕ) → Type 0
AreWanted (payloads.Texts texts) wanted = wanted ≡ map (λ text. text.now) texts.items
AreWanted (payloads.File name) wanted = (bytes : List ℕ) × (wanted ≡ bytes ∷ [])
AreWanted payloads.Whole wanted = (bytes : List ℕ) × (bytes ≢ []) × (wanted ≡ bytes ∷ [])
AreWanted payloads.Lines wanted = ⊤
AreWanted payloads.Empty wanted = wanted ≡ [] ∷ []

-- `-l`: the messages are the lines of standard input
abbrev pub is_lines : Payloads → Bool
is_lines payloads.Lines = true
is_lines kind = false

-- The messages of the arguments: each payload in order, `--repeat` times, with the topic, the
-- quality of service and `-r`. The lines of standard input are not known.
pub record AreMessages (words : PublishWords) (messages : List Message) : Type 0 where
  pub wanted : List (List ℕ)
  pub payloads : AreWanted words.payloads wanted
  pub messages_are : is_lines words.payloads ≡ false
      → messages ≡ map (message_of words.topic words.common.qos words.retain) (rounds_of wanted words.repeat)

-- All messages that a source gave were published, and are sent or acknowledged.
abbrev pub Completes : Option (List Message) → Option (List Message) → Type 0
Completes coming left = (start : Moment) × (end : Moment) × AllPosted start end coming left

-- The messages of the arguments were published, in order. Each of QoS 0 was sent, and each of QoS 1
-- and 2 is acknowledged (4.3). Then the client left (3.14).
pub record Delivers (words : PublishWords) : Type 0 where
  pub first : Moment
  pub last : Moment
  pub end : Moment
  pub messages : List Message
  pub wanted : AreMessages words messages
  pub posted : Posted first last messages []
  pub idle : IsIdle last.client.link.end
  pub leaves : Leaves last end
