-- Messages that a source gives.
use Rattle.std.specs.Prelude.{◌≡◌, ⊤, Bool, true, false, List, [], ◌∷◌, ◌++◌, Option, Some, None}
use Rattle.mq_packet.specs.declared.message.Message.{Message}
use Rattle.mq_pubsub.specs.declared.source.Next.{Next}
use Rattle.mq_pubsub.specs.declared.source.Next.TheVariants as nexts

-- the messages of an answer
abbrev pub messages_of : Next → List Message
messages_of (nexts.Message message) = message ∷ []
messages_of nexts.Later = []
messages_of nexts.End = []

-- the message of an answer, if it is one
abbrev pub message_of : Next → Option Message
message_of (nexts.Message message) = Some message
message_of nexts.Later = None
message_of nexts.End = None

-- the source has no message any more
abbrev pub is_end : Next → Bool
is_end (nexts.Message message) = false
is_end nexts.Later = false
is_end nexts.End = true

-- A source gave these messages, in order, of those that were to come. Those that are still to come
-- follow them.
abbrev pub Gives : Option (List Message) → Option (List Message) → List Message → Type 0
Gives None left messages = ⊤
Gives (Some coming) None messages = ⊥
Gives (Some coming) (Some left) messages = coming ≡ messages ++ left
