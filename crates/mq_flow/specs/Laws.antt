-- The laws of the sender's book, after any list of moves.
use Rattle.std.specs.Prelude.{ℕ, ◌+◌, ◌≤◌, ◌≡◌, ◌↔◌, Bool, true, false, length, [], ◌∷◌}
use Rattle.mq_topic.specs.declared.qos.Qos.TheVariants.{Q1, Q2}
use Rattle.mq_packet.specs.Identifier.{IsIdentifier}
use Rattle.mq_packet.specs.declared.message.Message.{Message}
use Rattle.mq_flow.specs.declared.claim.Claim.{Claim}
use Rattle.mq_flow.specs.Receiver.{ReceiverBook, none_received, is_new, on_publish, on_pubrel}
use Rattle.mq_flow.specs.Sender.{SenderBook, blank_book, uses, times, IsFree, is_full, is_awaited, accept, on_puback, on_pubrec, on_pubcomp, all_sent, claim, release, no_claims, pubrec_answer, publish_packet, send, sent_packets}

-- Identifiers in use are 1 to 65,535, each is used once, and there are at most `capacity` (2.3.1).
pub record IsSound (capacity : ℕ) (book : SenderBook) : Type 0 where
  pub identifiers : (id : ℕ) → 1 ≤ times id (uses book) → IsIdentifier id
  pub distinct : (id : ℕ) → times id (uses book) ≤ 1
  pub within : length (uses book) ≤ capacity

-- After an identifier was assigned: it is valid, it was free, it is in use, and there was room
-- (2.3.1).
pub record IsGiven (capacity : ℕ) (old new : SenderBook) (id : ℕ) : Type 0 where
  pub identifier : IsIdentifier id
  pub fresh : times id (uses old) ≡ 0
  pub used : times id (uses new) ≡ 1
  pub more : length (uses new) ≡ length (uses old) + 1
  pub room : length (uses new) ≤ capacity

-- Each move keeps the book sound, and a book that is not full has an identifier to give (2.3.1).
pub record IdentifierLaws : Type 0 where
  pub free : (capacity : ℕ) (book : SenderBook) → capacity ≤ 65535 → is_full capacity book ≡ false → (id : ℕ) × IsFree book id
  pub full : (capacity : ℕ) (book : SenderBook) → is_full capacity book ≡ true ↔ (capacity ≤ length (uses book))
  pub at_first : (capacity : ℕ) → IsSound capacity blank_book
  pub accepted : (capacity id : ℕ) (message : Message) (sent : Bool) (book : SenderBook) → is_full capacity book ≡ false → IsFree book id → IsGiven capacity book (accept id message sent book) id
  pub accepts : (capacity id : ℕ) (message : Message) (sent : Bool) (book : SenderBook) → is_full capacity book ≡ false → IsFree book id → IsSound capacity book
      → IsSound capacity (accept id message sent book)
  pub claims : (capacity id : ℕ) (kind : Claim) (count : ℕ) (book : SenderBook) → is_full capacity book ≡ false → IsFree book id → IsSound capacity book → IsSound capacity (claim id kind count book)
  pub puback : (capacity id : ℕ) (book : SenderBook) → IsSound capacity book → IsSound capacity (on_puback id book)
  pub pubrec : (capacity id : ℕ) (book : SenderBook) → IsSound capacity book → IsSound capacity (on_pubrec id book)
  pub pubcomp : (capacity id : ℕ) (book : SenderBook) → IsSound capacity book → IsSound capacity (on_pubcomp id book)
  pub releases : (capacity id : ℕ) (book : SenderBook) → IsSound capacity book → IsSound capacity (release id book)
  pub drops : (capacity : ℕ) (book : SenderBook) → IsSound capacity book → IsSound capacity (no_claims book)
  pub sends : (capacity : ℕ) (book : SenderBook) → IsSound capacity book → IsSound capacity (all_sent book)

-- An acknowledgement removes the acknowledged message or identifier; a stray one changes nothing
-- (4.3.2, 4.3.3).
pub record StrayLaws : Type 0 where
  pub puback_stray : (id : ℕ) (book : SenderBook) → is_awaited Q1 id book.entries ≡ false → on_puback id book ≡ book
  pub pubrec_stray : (id : ℕ) (book : SenderBook) → is_awaited Q2 id book.entries ≡ false → (on_pubrec id book ≡ book) × (pubrec_answer id book ≡ [])
  pub pubcomp_stray : (id : ℕ) (book : SenderBook) → times id book.released ≡ 0 → on_pubcomp id book ≡ book
  pub puback_frees : (capacity id : ℕ) (book : SenderBook) → IsSound capacity book → is_awaited Q1 id book.entries ≡ true → times id (uses (on_puback id book)) ≡ 0
  pub pubrec_keeps : (capacity id : ℕ) (book : SenderBook) → IsSound capacity book → is_awaited Q2 id book.entries ≡ true → (other : ℕ)
      → times other (uses (on_pubrec id book)) ≡ times other (uses book)
  pub pubcomp_frees : (capacity id : ℕ) (book : SenderBook) → IsSound capacity book → 1 ≤ times id book.released → times id (uses (on_pubcomp id book)) ≡ 0

-- A receiver tells a message that it stored from a new one, until PUBREL (4.3.3).
pub record ReceiverLaws : Type 0 where
  pub at_first : (id : ℕ) → is_new id none_received ≡ true
  pub stored : (id : ℕ) (book : ReceiverBook) → is_new id (on_publish id book) ≡ false
  pub forgotten : (id : ℕ) (book : ReceiverBook) → is_new id (on_pubrel id book) ≡ true
  pub others_stored : (id other : ℕ) (book : ReceiverBook) → (other ≡ id → ⊥) → is_new other (on_publish id book) ≡ is_new other book
  pub others_forgotten : (id other : ℕ) (book : ReceiverBook) → (other ≡ id → ⊥) → is_new other (on_pubrel id book) ≡ is_new other book

-- Accepting and then sending is accepting while connected (4.3.2, 4.3.3).
pub record SendingLaws : Type 0 where
  pub both : (id : ℕ) (message : Message) (book : SenderBook) → IsFree book id → send id (accept id message false book) ≡ accept id message true book
  pub packet : (id : ℕ) (message : Message) (book : SenderBook) → IsFree book id → sent_packets id (accept id message false book) ≡ publish_packet id false message ∷ []
