-- The run of a publisher, over one connection after another.
use Rattle.std.specs.Prelude.{◌≡◌, ℕ, Bool, true, false, List, [], ◌∷◌, ◌++◌, map, Option, None, option_to_list}
use Rattle.std.specs.List.{filter}
use Rattle.std.specs.Io.KnownBytes.{Appends}
use Rattle.mq_topic.specs.declared.qos.Qos.{Qos}
use Rattle.mq_topic.specs.declared.qos.Qos.TheVariants.{Q0, Q1, Q2}
use Rattle.mq_packet.specs.declared.message.Message.{Message}
use Rattle.mq_end.specs.declared.happening.Happening.{Happening}
use Rattle.mq_end.specs.declared.reason.CloseReason.{CloseReason}
use Rattle.mq_end.specs.Publishing.{ClientState}
use Rattle.mq_client.specs.Course.{IsIdle, Leaves, Moment, Opening, Publication, Went, WentFirst}
use Rattle.mq_pubsub.specs.Giving.{Gives}

abbrev pub is_q0 : Qos → Bool
is_q0 Q0 = true
is_q0 Q1 = false
is_q0 Q2 = false

-- the messages that no session stores: those of QoS 0 (4.3.1)
abbrev pub unstored : List Message → List Message
unstored messages = filter (λ message. is_q0 message.qos) messages

-- Messages were published, and then the whole output was sent.
pub record Sent (start end : Moment) (messages : List Message) : Type 0 where
  pub last : Moment
  pub published : Went start last (map Publication messages) [] []
  pub whole : Appends last.written end.written last.client.link.output
  pub after : Went last end [] [] []

-- From one moment to another a publisher published these messages, in order, over one connection
-- after another. The second list has those of QoS 0 that may not have been written.
pub data Posted (start : Moment) : Moment → List Message → List Message → Type 0 where
  Begins : Posted start start [] []
  -- A connection begins. A session is discarded only if it has no unacknowledged message (3.1.2.4).
  Opens : (between end : Moment) (messages lost : List Message) (clean : Bool) → Posted start between messages lost
      → (clean ≡ true → IsIdle between.client.link.end)
      → WentFirst between end (Opening clean ∷ []) [] [] → Posted start end messages lost
  -- messages are published, and the whole output is sent
  Sends : (between end : Moment) (messages lost more : List Message) → Posted start between messages lost → Sent between end more
      → Posted start end (messages ++ more) lost
  -- messages are published, and the output is sent in part, or not
  Breaks : (between end : Moment) (messages lost more : List Message) → Posted start between messages lost → Went between end (map Publication more) [] []
      → Posted start end (messages ++ more) (lost ++ unstored more)
  -- packets are received, and answered
  Hears : (between end : Moment) (messages lost : List Message) (told : List Happening) (reasons : List CloseReason) → Posted start between messages lost
      → Went between end [] told reasons → Posted start end messages lost
  -- a new connection continues with the session
  Continues : (between end : Moment) (messages lost : List Message) → Posted start between messages lost
      → end.client ≡ between.client → end.kept ≡ between.kept → Posted start end messages lost

-- Messages were taken from a source and published. `next` and `later` are the messages that were
-- taken and not published, before and after. `lost` and `missing` count the messages of QoS 0 that
-- may not have been written, before and after.
pub record Progress (start end : Moment) (next later : Option Message) (lost missing : ℕ) (coming left : Option (List Message)) : Type 0 where
  pub messages : List Message
  pub unwritten : List Message
  pub fresh : List Message
  pub posted : Posted start end messages unwritten
  pub given : Gives coming left fresh
  pub parts : option_to_list next ++ fresh ≡ messages ++ option_to_list later
  pub none_before : missing ≡ 0 → lost ≡ 0
  pub none : missing ≡ 0 → unwritten ≡ []

-- At most the next message was published. `unwritten` and `pending` count those of QoS 0 in the
-- output, before and after.
pub record Publishes (start end : Moment) (next later : Option Message) (unwritten pending : ℕ) : Type 0 where
  pub messages : List Message
  pub published : Went start end (map Publication messages) [] []
  pub parts : option_to_list next ≡ messages ++ option_to_list later
  pub none_before : pending ≡ 0 → unwritten ≡ 0
  pub none : pending ≡ 0 → unstored messages ≡ []

-- These messages were published, and the run stopped early.
pub record PartPosted (start end : Moment) : Type 0 where
  pub messages : List Message
  pub unwritten : List Message
  pub posted : Posted start end messages unwritten

-- All messages were published and nothing was lost. Everything is acknowledged, and then the client
-- left.
pub record Finishes (start end : Moment) (next : Option Message) (lost : ℕ) (coming left : Option (List Message)) : Type 0 where
  pub last : Moment
  pub progress : Progress start last next None lost 0 coming left
  pub idle : IsIdle last.client.link.end
  pub leaves : Leaves last end
  pub whole : Posted last end [] []

-- The client and its stored session at the start.
pub record StartsWith (start : Moment) (client : ClientState) (kept : Option (List ℕ)) : Type 0 where
  pub client_is : start.client ≡ client
  pub kept_is : start.kept ≡ kept

-- Every message that the source gave was published, in order. Each of QoS 0 was sent, and each of
-- QoS 1 and 2 is acknowledged (4.3.2, 4.3.3). Then the client left.
pub record AllPosted (start end : Moment) (coming left : Option (List Message)) : Type 0 where
  pub last : Moment
  pub messages : List Message
  pub posted : Posted start last messages []
  pub given : Gives coming left messages
  pub idle : IsIdle last.client.link.end
  pub leaves : Leaves last end

-- No message is left to publish: none was taken from the source, and it has ended.
abbrev pub IsLast : Option Message → Bool → Type 0
IsLast next is_ended = (next ≡ None) × (is_ended ≡ true)
