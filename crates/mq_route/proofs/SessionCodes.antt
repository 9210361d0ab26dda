-- The bytes of a session determine it.
use Rattle.std.proofs.Common.{◌≡◌, ℕ, true, false, Option, List, [], ◌∷◌, ◌++◌, length, sym, ap, ◌∙◌, append_assoc}
use Rattle.std.specs.List.{flat_map}
use Rattle.std.specs.FinSet as set
use Rattle.mq_wire.specs.Number.{number}
use Rattle.mq_wire.specs.Text.{counted}
use Rattle.mq_topic.specs.Qos.{qos_number}
use Rattle.mq_packet.specs.Identifier.{IsIdentifier}
use Rattle.mq_packet.specs.Encoding.{bit}
use Rattle.mq_packet.specs.declared.message.Message.{Message}
use Rattle.mq_flow.specs.declared.entry.SenderEntry.{SenderEntry}
use Rattle.mq_flow.specs.Receiver.{ReceiverBook}
use Rattle.mq_flow.specs.Saved.{count, saved_payload, saved_flags, saved_entry, saved_ids, saved_receiver}
use Rattle.mq_flow.specs.Loading.{receiver_at}
use Rattle.mq_flow.proofs.SessionForms.{receiver_again}
use Rattle.mq_end.specs.declared.state.State.TheVariants.{Disconnected}
use Rattle.mq_end.specs.End.{End, resumed}
use Rattle.mq_route.specs.Hub.{HubSession}
use Rattle.mq_route.specs.Snapshot.{eight, saved_end, saved_session}
use Rattle.mq_route.proofs.Codes.{all_any, bit_is, body_code, cons_parts, count_code, counted_code, each_code, eight_code, fronts, number_code, pair_parts, qos_is}

-- ---- identifiers

pub ids_code : (a b : List ℕ) (r s : List ℕ) → saved_ids a ++ r ≡ saved_ids b ++ s → (a ≡ b) × (r ≡ s)
ids_code a b r s e =
    let size = number_code (length a) (length b) (flat_map number a ++ r) (flat_map number b ++ s)
    (sym (append_assoc (number (length a)) (flat_map number a) r) ∙ e ∙ append_assoc (number (length b)) (flat_map number b) s) in
    each_code (λ (n : ℕ). Unit {0}) number (λ m n r s p q e. number_code m n r s e) a b r s (all_any a) (all_any b) size.0 size.1

abbrev pub AreIdentifiers : ReceiverBook → Type 0
AreIdentifiers r = (i : ℕ) → set.contains r i ≡ true → IsIdentifier i

pub receiver_code : (a b : ReceiverBook) (r s : List ℕ) → AreIdentifiers a → AreIdentifiers b → saved_receiver a ++ r ≡ saved_receiver b ++ s → (a ≡ b) × (r ≡ s)
receiver_code a b r s p q e = pair_parts a b r s (sym (receiver_again a r p) ∙ ap receiver_at e ∙ receiver_again b s q)

-- ---- messages that are not acknowledged

pub entry_code : (x y : SenderEntry) (r s : List ℕ) → saved_entry x ++ r ≡ saved_entry y ++ s → (x ≡ y) × (r ≡ s)
entry_code x y r s e =
    let body : Message → List ℕ = λ m. counted m.topic ++ saved_payload m.payload in
    let id = number_code x.id y.id ((saved_flags x ++ body x.message) ++ r) ((saved_flags y ++ body y.message) ++ s)
    (sym (append_assoc (number x.id) (saved_flags x ++ body x.message) r) ∙ e ∙ append_assoc (number y.id) (saved_flags y ++ body y.message) s) in
    let qos_byte = cons_parts (qos_number x.message.qos) (qos_number y.message.qos) (bit x.sent ∷ bit x.message.retain ∷ (body x.message ++ r)) (bit y.sent ∷ bit y.message.retain ∷ (body y.message ++ s)) id.1 in
    let sent_byte = cons_parts (bit x.sent) (bit y.sent) (bit x.message.retain ∷ (body x.message ++ r)) (bit y.message.retain ∷ (body y.message ++ s)) qos_byte.1 in
    let retain_byte = cons_parts (bit x.message.retain) (bit y.message.retain) (body x.message ++ r) (body y.message ++ s) sent_byte.1 in
    let rest = body_code x.message y.message r s retain_byte.1 in
    let qos = qos_is x.message.qos y.message.qos qos_byte.0 in
    let sent = bit_is x.sent y.sent sent_byte.0 in
    let retain = bit_is x.message.retain y.message.retain retain_byte.0 in
    (λ i. record { id = id.0 i; message = record { topic = rest.0 i; payload = rest.1 i; qos = qos i; retain = retain i }; sent = sent i }, rest.2)

-- ---- the session of an end

-- The number assigned last, the messages, the released and the received identifiers.
record SameParts (x y : End) (r s : List ℕ) : Type 0 where
  pub last : x.last ≡ y.last
  pub entries : x.book.entries ≡ y.book.entries
  pub released : x.book.released ≡ y.book.released
  pub received : x.received ≡ y.received
  pub rest : r ≡ s

end_parts : (x y : End) (r s : List ℕ) → AreIdentifiers x.received → AreIdentifiers y.received → saved_end x ++ r ≡ saved_end y ++ s → SameParts x y r s
unfolding saved_end
end_parts x y r s p q e =
    let behind : End → List ℕ → List ℕ = λ z t. saved_ids z.book.released ++ (saved_receiver z.received ++ t) in
    let flat : (z : End) (t : List ℕ) → saved_end z ++ t ≡ number z.last ++ (number (length z.book.entries) ++ (flat_map saved_entry z.book.entries ++ behind z t))
    = λ z t.
    let ids = saved_ids z.book.released ++ saved_receiver z.received in
    ap (λ (u : List ℕ). number z.last ++ (number (length z.book.entries) ++ u)) (append_assoc (flat_map saved_entry z.book.entries) ids t
    ∙ ap (λ (u : List ℕ). flat_map saved_entry z.book.entries ++ u) (append_assoc (saved_ids z.book.released) (saved_receiver z.received) t)) in
    let last = number_code x.last y.last _ _ (sym (flat x r) ∙ e ∙ flat y s) in
    let size = number_code (length x.book.entries) (length y.book.entries) (flat_map saved_entry x.book.entries ++ behind x r) (flat_map saved_entry y.book.entries ++ behind y s) last.1 in
    let entries = each_code (λ (n : SenderEntry). Unit {0}) saved_entry (λ m n r s p q e. entry_code m n r s e) x.book.entries y.book.entries (behind x r) (behind y s) (all_any x.book.entries) (all_any y.book.entries) size.0 size.1 in
    let released = ids_code x.book.released y.book.released (saved_receiver x.received ++ r) (saved_receiver y.received ++ s) entries.1 in
    let received = receiver_code x.received y.received r s p q released.1 in
    record { last = last.0; entries = entries.0; released = released.0; received = received.0; rest = received.1 }

-- ---- a session

-- The key, the time, the client identifier and the session of the end.
record SameSession (x y : HubSession) (r s : List ℕ) : Type 0 where
  pub key : x.key ≡ y.key
  pub left : x.left ≡ y.left
  pub client : x.client ≡ y.client
  pub parts : SameParts x.end y.end [] []
  pub rest : r ≡ s

session_parts : (x y : HubSession) (r s : List ℕ) → AreIdentifiers x.end.received → AreIdentifiers y.end.received → saved_session x ++ r ≡ saved_session y ++ s → SameSession x y r s
unfolding saved_session
session_parts x y r s p q e =
    let body : HubSession → List ℕ → List ℕ = λ z t. eight (length (saved_end z.end)) ++ (saved_end z.end ++ t) in
    let flat : (z : HubSession) (t : List ℕ) → saved_session z ++ t ≡ count z.key ++ (eight z.left ++ (counted z.client ++ body z t))
    = λ z t.
    let form = eight (length (saved_end z.end)) ++ saved_end z.end in
    append_assoc (count z.key) (eight z.left ++ (counted z.client ++ form)) t
    ∙ ap (λ (u : List ℕ). count z.key ++ u) (append_assoc (eight z.left) (counted z.client ++ form) t
    ∙ ap (λ (u : List ℕ). eight z.left ++ u) (append_assoc (counted z.client) form t
    ∙ ap (λ (u : List ℕ). counted z.client ++ u) (append_assoc (eight (length (saved_end z.end))) (saved_end z.end) t))) in
    let key = count_code x.key y.key (eight x.left ++ (counted x.client ++ body x r)) (eight y.left ++ (counted y.client ++ body y s)) (sym (flat x r) ∙ e ∙ flat y s) in
    let left = eight_code x.left y.left (counted x.client ++ body x r) (counted y.client ++ body y s) key.1 in
    let client = counted_code x.client y.client (body x r) (body y s) left.1 in
    let size = eight_code (length (saved_end x.end)) (length (saved_end y.end)) (saved_end x.end ++ r) (saved_end y.end ++ s) client.1 in
    let form = fronts (saved_end x.end) (saved_end y.end) r s size.0 size.1 in
    record { key = key.0; left = left.0; client = client.0; parts = end_parts x.end y.end [] [] p q (ap (λ (u : List ℕ). u ++ []) form.0); rest = form.1 }

-- The end has a session, this window and no connection. The identifiers that it received are valid.
pub record IsEndAtRest (window : Option ℕ) (e : End) : Type 0 where
  pub end : e ≡ resumed window true e.book e.received e.last
  pub received : AreIdentifiers e.received

end_code : (window : Option ℕ) (x y : End) → IsEndAtRest window x → IsEndAtRest window y → SameParts x y [] [] → x ≡ y
end_code window x y p q same =
    let made : resumed window true x.book x.received x.last ≡ resumed window true y.book y.received y.last
    = λ i. record {
      book = record { entries = same.entries i; released = same.released i; claimed = [] };
      received = same.received i;
      last = same.last i;
      state = Disconnected;
      known = true;
      clean = false;
      keep_alive = 0;
      window = window;
    } in
    p.end ∙ made ∙ sym q.end

pub session_code : (window : Option ℕ) (x y : HubSession) (r s : List ℕ) → IsEndAtRest window x.end → IsEndAtRest window y.end → saved_session x ++ r ≡ saved_session y ++ s → (x ≡ y) × (r ≡ s)
session_code window x y r s p q e =
    let same = session_parts x y r s p.received q.received e in
    let end = end_code window x.end y.end p q same.parts in
    (λ i. record { client = same.client i; key = same.key i; end = end i; left = same.left i }, same.rest)
