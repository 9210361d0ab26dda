-- The saved form of a session, version 1. A session is the state that is kept while there is no
-- connection (3.1.2.4, 4.1): the messages that are not acknowledged, the identifiers that are
-- released, and those that are received and not released.
use Rattle.std.specs.Prelude.{◌≡◌, ℕ, ◌+◌, ◌/◌, ◌%◌, ◌<◌, ◌≤◌, true, List, [], ◌∷◌, ◌++◌, length}
use Rattle.std.specs.List.{flat_map, range_with_len, filter, AllByRecursion}
use Rattle.std.specs.FinSet as set
use Rattle.mq_wire.specs.Number.{number}
use Rattle.mq_wire.specs.Text.{counted}
use Rattle.mq_topic.specs.declared.qos.Qos.TheVariants.{Q0}
use Rattle.mq_topic.specs.Qos.{qos_number}
use Rattle.mq_topic.specs.Topic.{IsTopicName}
use Rattle.mq_packet.specs.Identifier.{IsIdentifier}
use Rattle.mq_packet.specs.declared.message.Message.{Message}
use Rattle.mq_packet.specs.Encoding.{bit}
use Rattle.mq_flow.specs.declared.entry.SenderEntry.{SenderEntry}
use Rattle.mq_flow.specs.declared.session.Session.{Session}
use Rattle.mq_flow.specs.Sender.{no_claims}
use Rattle.mq_flow.specs.Sending.{Sending}
use Rattle.mq_flow.specs.Receiver.{ReceiverBook}
use Rattle.mq_flow.specs.Laws.{IsSound}

-- `MQS`, and the version
abbrev pub signature : List ℕ
signature = 0x4d ∷ 0x51 ∷ 0x53 ∷ 1 ∷ []

-- a number of four bytes, the high byte first
abbrev pub count : ℕ → List ℕ
count value = number (value / 65536) ++ number (value % 65536)

-- a payload, behind a count of four bytes
abbrev pub saved_payload : List ℕ → List ℕ
saved_payload payload = count (length payload) ++ payload

-- quality of service, whether it was sent, RETAIN
abbrev pub saved_flags : SenderEntry → List ℕ
saved_flags entry = qos_number entry.message.qos ∷ bit entry.sent ∷ bit entry.message.retain ∷ []

-- a message that is not acknowledged, with its identifier (4.3.2, 4.3.3)
abbrev pub saved_entry : SenderEntry → List ℕ
saved_entry entry = number entry.id ++ (saved_flags entry ++ (counted entry.message.topic ++ saved_payload entry.message.payload))

-- The number of identifiers, followed by the identifiers.
abbrev pub saved_ids : List ℕ → List ℕ
saved_ids ids = number (length ids) ++ flat_map number ids

-- The sender's state in order, without the identifiers of SUBSCRIBE and UNSUBSCRIBE.
abbrev pub saved_sender : Sending → List ℕ
saved_sender sender = number sender.capacity ++ (number sender.last ++ (number (length sender.book.entries) ++ (flat_map saved_entry sender.book.entries ++ saved_ids sender.book.released)))

-- the identifiers of a set, ascending: those of 1 to 65,535 that are in it
unfoldable pub ascending : ReceiverBook → List ℕ
ascending book = filter (λ id. set.contains book id) (range_with_len 1 65535)

-- the identifiers that were received, ascending (4.3.3)
abbrev pub saved_receiver : ReceiverBook → List ℕ
saved_receiver book = saved_ids (ascending book)

abbrev pub saved_form : Session → List ℕ
saved_form session = signature ++ (saved_sender session.sender ++ saved_receiver session.receiver)

-- the session, no SUBSCRIBE or UNSUBSCRIBE waits, and no room is reserved
abbrev pub without_claims : Session → Session
without_claims session = record session { sender = record session.sender { book = no_claims session.sender.book; room = 0 } }

-- nothing is claimed, no room is reserved, and `bytes` is the saved form
pub record Saved (session : Session) (bytes : List ℕ) : Type 0 where
  pub unclaimed : session.sender.book.claimed ≡ []
  pub unreserved : session.sender.room ≡ 0
  pub form : bytes ≡ saved_form session

-- the PUBLISH of a message with an identifier has a remaining length within a limit (2.2.3, 3.3)
abbrev pub IsWithinLimit : ℕ → Message → Type 0
IsWithinLimit limit message = 2 + length message.topic + 2 + length message.payload ≤ limit

-- A stored message has QoS 1 or 2 (4.3.1), a topic name (4.7), and fits the limit.
pub record IsKept (limit : ℕ) (entry : SenderEntry) : Type 0 where
  pub acknowledged : entry.message.qos ≡ Q0 → ⊥
  pub topic : IsTopicName entry.message.topic
  pub within : IsWithinLimit limit entry.message

-- The invariant of a session whose PUBLISH packets fit the limit: its identifiers in use are sound,
-- its capacity is 1 to 65,535, and the received identifiers are valid (2.3.1).
pub record IsSessionWithin (limit : ℕ) (session : Session) : Type 0 where
  pub sound : IsSound session.sender.capacity session.sender.book
  pub able : 0 < session.sender.capacity
  pub most : session.sender.capacity ≤ 65535
  pub last : session.sender.last ≤ 65535
  pub entries : AllByRecursion (IsKept limit) session.sender.book.entries
  pub received : (id : ℕ) → set.contains session.receiver id ≡ true → IsIdentifier id

-- the PUBLISH of each message is within a limit (2.2.3, 3.3)
abbrev pub AreWithin : ℕ → List SenderEntry → Type 0
AreWithin limit entries = AllByRecursion (λ entry. IsWithinLimit limit entry.message) entries

-- and the limit is the standard's (2.2.3)
abbrev pub IsSession : Session → Type 0
IsSession session = IsSessionWithin 268435455 session
