-- The sender's book and its moves (2.3.1, 4.3.2, 4.3.3, 4.4).
use Rattle.std.specs.Prelude.{ℕ, ◌+◌, ◌-◌, ◌≤◌, ◌≡◌, Bool, true, false, not, ◌&&◌, if◌then◌else◌, List, [], ◌∷◌, ◌++◌, map, length, ◌==◌, nat_le, nat_lt, filter, Some}
use Rattle.std.specs.List.{list_any}
use Rattle.mq_topic.specs.declared.qos.Qos.{Qos}
use Rattle.mq_topic.specs.declared.qos.Qos.TheVariants.{Q1, Q2}
use Rattle.mq_topic.specs.Qos.{qos_number}
use Rattle.mq_packet.specs.Identifier.{IsIdentifier}
use Rattle.mq_packet.specs.declared.message.Message.{Message}
use Rattle.mq_packet.specs.declared.packet.Packet.{Packet}
use Rattle.mq_packet.specs.declared.packet.Packet.TheVariants as packets
use Rattle.mq_flow.specs.declared.entry.SenderEntry.{SenderEntry}
use Rattle.mq_flow.specs.declared.claim.Claim.{Claim}
use Rattle.mq_flow.specs.declared.claim.Claim.TheVariants.{Subscribe, Unsubscribe}
use Rattle.mq_flow.specs.declared.claim.Claimed.{Claimed}
use Rattle.mq_flow.specs.declared.reaction.Reaction.{Reaction}
use Rattle.mq_flow.specs.declared.reaction.Reaction.TheVariants.{Freed, Release, Stray}

-- The sender's book: the messages that it accepted and that are not acknowledged, in order of
-- acceptance; the identifiers of those that a PUBREC acknowledged, in the order of the PUBRECs,
-- until their PUBCOMP (4.3.3); and the identifiers in use by SUBSCRIBE and UNSUBSCRIBE (2.3.1).
pub record SenderBook : Type 0 where
  pub entries : List SenderEntry
  pub released : List ℕ
  pub claimed : List Claimed

-- nothing was accepted, nothing is in use
abbrev pub blank_book : SenderBook
blank_book = record { entries = []; released = []; claimed = [] }

-- the identifiers in use, which no new packet may have (2.3.1)
abbrev pub uses : SenderBook → List ℕ
uses book = map (λ entry. entry.id) book.entries ++ (book.released ++ map (λ request. request.id) book.claimed)

-- How often an identifier occurs in a list.
abbrev pub times : ℕ → List ℕ → ℕ
times id [] = 0
times id (first ∷ rest) = (if first == id then 1 else 0) + times id rest

-- an identifier that may be given to a new packet: 1 to 65,535 and not in use (2.3.1)
abbrev pub IsFree : SenderBook → ℕ → Type 0
IsFree book id = IsIdentifier id × (times id (uses book) ≡ 0)

-- The number of steps from one identifier to another, going round from 65,535 to 1. 0 comes before
-- 1 (2.3.1).
abbrev pub steps : ℕ → ℕ → ℕ
steps last id = if nat_lt last id then id - last else (65535 - last) + id

-- The first free identifier after the one assigned last, going round; 0 if none was assigned
-- (2.3.1).
pub record IsFirstFree (last : ℕ) (book : SenderBook) (id : ℕ) : Type 0 where
  pub free : IsFree book id
  pub first : (other : ℕ) → IsFree book other → steps last id ≤ steps last other

-- as many identifiers are in use as there is room for (2.3.1)
abbrev pub is_full : ℕ → SenderBook → Bool
is_full capacity book = nat_le capacity (length (uses book))

-- ---- reading the book

-- whether two qualities of service are the same (4.3)
abbrev pub same_qos : Qos → Qos → Bool
same_qos qos other = qos_number qos == qos_number other

-- a message of this quality of service was sent with this identifier, and waits for its
-- acknowledgement (4.3.2, 4.3.3)
abbrev pub is_awaited : Qos → ℕ → List SenderEntry → Bool
is_awaited qos id entries = list_any (λ entry. same_qos qos entry.message.qos && (entry.id == id && entry.sent)) entries

-- the messages of a quality of service that are held, with their identifiers, in order of
-- acceptance (4.3.2, 4.3.3)
abbrev pub held : Qos → List SenderEntry → List (ℕ × Message)
held qos entries = map (λ entry. (entry.id, entry.message)) (filter (λ entry. same_qos qos entry.message.qos) entries)

-- the identifiers but this one
abbrev pub without : ℕ → List ℕ → List ℕ
without id ids = filter (λ other. not (other == id)) ids

-- the entries but those of this identifier
abbrev pub without_entry : ℕ → List SenderEntry → List SenderEntry
without_entry id entries = filter (λ entry. not (entry.id == id)) entries

-- the claimed identifiers but this one
abbrev pub without_claim : ℕ → List Claimed → List Claimed
without_claim id requests = filter (λ request. not (request.id == id)) requests

-- ---- its moves

-- A message is accepted under an identifier, behind all others. If the sender is connected, its
-- PUBLISH is sent at once; otherwise later (4.3.2, 4.3.3).
abbrev pub accept : ℕ → Message → Bool → SenderBook → SenderBook
accept id message sent book = record book { entries = book.entries ++ record { id = id; message = message; sent = sent } ∷ [] }

-- A PUBLISH with this identifier, and with DUP if it may have been sent before (3.3.1.1, 3.3.2.2).
abbrev pub publish_packet : ℕ → Bool → Message → Packet
publish_packet id dup message = packets.Publish (record { message = message; delivery = Some (record { id = id; dup = dup }) })

-- A message that was not sent yet is sent: a PUBLISH without DUP (3.3.1.1).
abbrev pub send : ℕ → SenderBook → SenderBook
send id book = record book { entries = map (λ entry. record { id = entry.id; message = entry.message; sent = if entry.id == id then true else entry.sent }) book.entries }

-- The PUBLISH that is sent.
abbrev pub sent_packets : ℕ → SenderBook → List Packet
sent_packets id book = map (λ entry. publish_packet entry.id false entry.message) (filter (λ entry. entry.id == id && not entry.sent) book.entries)

-- PUBACK: a message of quality of service 1 is acknowledged, its identifier is free (4.3.2).
-- Nothing else changes.
abbrev pub on_puback : ℕ → SenderBook → SenderBook
on_puback id book = record book { entries = if is_awaited Q1 id book.entries then without_entry id book.entries else book.entries }

-- The reaction to a PUBACK (4.3.2).
abbrev pub puback_reaction : ℕ → SenderBook → Reaction
puback_reaction id book = if is_awaited Q1 id book.entries then Freed else Stray

-- PUBREC: a message of quality of service 2 is acknowledged; its identifier stays in use until
-- PUBCOMP (4.3.3). Nothing else changes.
abbrev pub on_pubrec : ℕ → SenderBook → SenderBook
on_pubrec id book = record book {
  entries = if is_awaited Q2 id book.entries then without_entry id book.entries else book.entries;
  released = if is_awaited Q2 id book.entries then book.released ++ id ∷ [] else book.released;
}

-- The PUBREL that answers a PUBREC (4.3.3).
abbrev pub pubrec_answer : ℕ → SenderBook → List Packet
pubrec_answer id book = if is_awaited Q2 id book.entries then packets.PubRel id ∷ [] else []

-- The reaction to a PUBREC (4.3.3).
abbrev pub pubrec_reaction : ℕ → SenderBook → Reaction
pubrec_reaction id book = if is_awaited Q2 id book.entries then Release id else Stray

-- PUBCOMP: a released identifier is free (4.3.3)
abbrev pub on_pubcomp : ℕ → SenderBook → SenderBook
on_pubcomp id book = record book { released = without id book.released }

-- The reaction to a PUBCOMP (4.3.3).
abbrev pub pubcomp_reaction : ℕ → SenderBook → Reaction
pubcomp_reaction id book = if list_any (λ other. other == id) book.released then Freed else Stray

-- Retransmission after a reconnect (4.4): a PUBREL for each released identifier in the order of the
-- PUBRECs, then a PUBLISH for each message in the order of acceptance, with DUP if it was sent
-- before.
abbrev pub resent : SenderBook → List Packet
resent book = map packets.PubRel book.released ++ map (λ entry. publish_packet entry.id entry.sent entry.message) book.entries

-- after it all are sent (4.4)
abbrev pub all_sent : SenderBook → SenderBook
all_sent book = record book { entries = map (λ entry. record { id = entry.id; message = entry.message; sent = true }) book.entries }

-- ---- SUBSCRIBE and UNSUBSCRIBE

-- An identifier is used by a SUBSCRIBE or UNSUBSCRIBE with `count` filters (2.3.1, 3.8.4, 3.10.4).
abbrev pub claim : ℕ → Claim → ℕ → SenderBook → SenderBook
claim id kind count book = record book { claimed = book.claimed ++ record { id = id; kind = kind; count = count } ∷ [] }

-- it is free (2.3.1)
abbrev pub release : ℕ → SenderBook → SenderBook
release id book = record book { claimed = without_claim id book.claimed }

-- all of them are free: a connection is over
abbrev pub no_claims : SenderBook → SenderBook
no_claims book = record book { claimed = [] }

-- whether it is SUBSCRIBE
abbrev pub is_subscribe : Claim → Bool
is_subscribe Subscribe = true
is_subscribe Unsubscribe = false

-- A SUBSCRIBE with this identifier and `count` filters is pending (3.8.4).
abbrev pub awaits_suback : ℕ → ℕ → SenderBook → Bool
awaits_suback id count book = list_any (λ request. is_subscribe request.kind && (request.id == id && request.count == count)) book.claimed

-- An UNSUBSCRIBE with this identifier is pending (3.10.4).
abbrev pub awaits_unsuback : ℕ → SenderBook → Bool
awaits_unsuback id book = list_any (λ request. not (is_subscribe request.kind) && request.id == id) book.claimed
