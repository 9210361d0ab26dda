-- The answer to a packet, which is queued before copies are placed.
use Rattle.std.specs.Prelude.{ℕ, ◌==◌, Option, Some, None, if◌then◌else◌}
use Rattle.mq_packet.specs.declared.publish.Delivery.{Delivery}
use Rattle.mq_hub.specs.declared.publish.queued_answer.QueuedAnswer.{QueuedAnswer}

-- the number of bytes of an answer that are queued for a client before its copies
abbrev pub answer_for : Option QueuedAnswer → ℕ → ℕ
answer_for None key = 0
answer_for (Some answer) key = if answer.key == key then answer.bytes else 0

-- the answer of a client's end to its PUBLISH: PUBACK or PUBREC (3.4, 3.5), and nothing with QoS 0
abbrev pub publish_answer : ℕ → Option Delivery → QueuedAnswer
publish_answer key None = record { key = key; bytes = 0 }
publish_answer key (Some delivery) = record { key = key; bytes = 4 }
