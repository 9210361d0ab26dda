-- The number of bytes that a sender's book stores.
use Rattle.std.specs.Prelude.{◌≡◌, ℕ, ◌+◌, ◌<◌, ◌^◌, List, length, sum_by}
use Rattle.std.specs.List.{AllByRecursion}
use Rattle.mq_packet.specs.declared.message.Message.{Message}
use Rattle.mq_flow.specs.Sender.{SenderBook}
use Rattle.mq_flow.specs.declared.entry.SenderEntry.{SenderEntry}

-- the topic and payload bytes of a message (3.3.2.1, 3.3.3)
abbrev pub message_bytes : Message → ℕ
message_bytes message = length message.topic + length message.payload

-- the topic and payload bytes of the messages of entries
abbrev pub entry_bytes : List SenderEntry → ℕ
entry_bytes entries = sum_by (λ entry. message_bytes entry.message) entries

-- the topic and payload bytes of the messages that a sender's book stores (4.1)
abbrev pub stored_bytes : SenderBook → ℕ
stored_bytes book = entry_bytes book.entries

-- This is the number of bytes of these entries, each of which fits in a packet (2.2.3).
pub record AreCounted (bytes : ℕ) (entries : List SenderEntry) : Type 0 where
  pub sum : bytes ≡ entry_bytes entries
  pub short : AllByRecursion (λ entry. message_bytes entry.message < 2 ^ 29) entries
