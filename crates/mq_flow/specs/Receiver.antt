-- The receiver's book and its moves (4.3.3): the identifiers of QoS 2 messages that were delivered
-- and are not released. A message is delivered when its PUBLISH arrives (method B).
use Rattle.std.specs.Prelude.{◌≡◌, ℕ, Bool, true, not, List}
use Rattle.std.specs.List.{list_any}
use Rattle.std.specs.FinSet as FinSet
use Rattle.std.specs.Ordering.{nat_cmp, eq_by_cmp}
use Rattle.mq_packet.specs.Identifier.{IsIdentifier}

-- the receiver's book: a set of identifiers (4.3.3)
abbrev pub ReceiverBook : Type 0
ReceiverBook = FinSet.FinSet nat_cmp

-- no message waits for its PUBREL (4.3.3)
abbrev pub none_received : ReceiverBook
none_received = FinSet.empty

-- A QoS 2 PUBLISH with this identifier is a new message, to be delivered (4.3.3).
abbrev pub is_new : ℕ → ReceiverBook → Bool
is_new id book = not (FinSet.contains book id)

-- PUBLISH with QoS 2: its identifier is stored, and PUBREC responds (4.3.3).
abbrev pub on_publish : ℕ → ReceiverBook → ReceiverBook
on_publish id book = FinSet.insert book id

-- PUBREL: the identifier is forgotten, and PUBCOMP responds, also if it was not stored (4.3.3).
abbrev pub on_pubrel : ℕ → ReceiverBook → ReceiverBook
on_pubrel id book = FinSet.remove book id

-- the numbers of a list are identifiers, each from 1 to 65,535 (2.3.1)
abbrev pub AreIdentifiers : List ℕ → Type 0
AreIdentifiers ids = (id : ℕ) → list_any (eq_by_cmp nat_cmp id) ids ≡ true → IsIdentifier id
