-- What a session has room for after a message is queued for its client.
use Rattle.std.proofs.Common.{◌≡◌, ℕ, ◌+◌, ◌-◌, Bool, true, false, cond, not, ◌&&◌, ◌||◌, List, [], ◌∷◌, ◌++◌, length, Option, Some, None, refl, sym, ap, ap₂, ◌∙◌, append-nil, arith, eqb, zero-add}
use Rattle.std.proofs.lemmas.Bool.{cond-true}
use Rattle.std.proofs.lemmas.List.{length-append}
use Rattle.std.proofs.lemmas.List.Sums.{sum_by_push}
use Rattle.mq_wire.specs.Length.{length_bytes}
use Rattle.mq_wire.specs.Text.{counted}
use Rattle.mq_topic.specs.declared.qos.Qos.{Qos}
use Rattle.mq_topic.specs.declared.qos.Qos.TheVariants.{Q0, Q1, Q2}
use Rattle.mq_packet.specs.declared.message.Message.{Message}
use Rattle.mq_packet.specs.declared.packet.Packet.{Packet}
use Rattle.mq_packet.specs.declared.packet.Packet.TheVariants as packets
use Rattle.mq_packet.specs.declared.publish.Delivery.{Delivery}
use Rattle.mq_packet.specs.Encoding.{encoding, encodings, encoded_size, fields, delivery_fields}
use Rattle.mq_flow.specs.declared.entry.SenderEntry.{SenderEntry}
use Rattle.mq_flow.specs.Next.{next_identifier}
use Rattle.mq_flow.specs.Sender.{SenderBook, publish_packet, uses}
use Rattle.mq_flow.specs.Stored.{message_bytes, stored_bytes}
use Rattle.mq_end.specs.Both.{has_identifier, publishes_at}
use Rattle.mq_end.specs.End.{End, is_up}
use Rattle.mq_end.specs.Sizes.{identifier_size, publish_size}
use Rattle.mq_end.specs.State.{EndState}
use Rattle.mq_route.specs.Work.{drops_copies, publish_bytes, publishes_next}
use Rattle.mq_tables.specs.declared.rules.CopyRules.{CopyRules}
use Rattle.mq_tables.specs.declared.space.Space.{Space}
use Rattle.mq_tables.specs.Publishing.{published}
use Rattle.mq_tables.specs.Rules.{fits_left, free_of, left_of, skips, space_after, space_of}
use Rattle.mq_tables.proofs.EndPublishes.{after_state, after_uses}
pub use Rattle.mq_tables.proofs.SessionRoom.{leaves_is}

-- ---- limits

-- what a limit leaves after more is used
pub left_twice : (o : Option ℕ) (used total more : ℕ) → total ≡ used + more → left_of o total ≡ left_of (left_of o used) more
left_twice None used total more e = refl
left_twice (Some most) used total more e =
    let same : most - total ≡ most - used - more = omega (arith, e) in
    ap (λ (n : ℕ). Some n) same

-- ---- a message that is published

after_bytes : (q : Qos) (i : ℕ) (m : Message) (e : End) → stored_bytes (publishes_at q i m e).end.book ≡ stored_bytes e.book + cond (has_identifier q) (message_bytes m) 0
after_bytes Q0 i m e = omega arith
after_bytes Q1 i m e = sum_by_push (λ (x : SenderEntry). message_bytes x.message) e.book.entries (record { id = i; message = m; sent = is_up e.state })
after_bytes Q2 i m e = sum_by_push (λ (x : SenderEntry). message_bytes x.message) e.book.entries (record { id = i; message = m; sent = is_up e.state })

-- the size of a packet
pub frame_bytes : (p : Packet) → length (encodings (p ∷ [])) ≡ encoded_size (length (fields p))
unfolding encoding
frame_bytes p =
    let whole = ap (λ (b : List ℕ). length b) (append-nil (encoding p)) in
    let all = length-append (length_bytes (length (fields p))) (fields p) in
    let framed : length (encoding p) ≡ encoded_size (length (fields p)) = omega (arith, all) in
    whole ∙ framed

packet_bytes : (m : Message) (d : Option Delivery) → length (delivery_fields d) ≡ identifier_size m.qos
    → length (encodings (packets.Publish (record { message = m; delivery = d }) ∷ [])) ≡ publish_bytes m
packet_bytes m d id =
    let p = packets.Publish (record { message = m; delivery = d }) in
    let parts = length-append (counted m.topic) (delivery_fields d ++ m.payload) in
    let rest = length-append (delivery_fields d) m.payload in
    let size : length (fields p) ≡ publish_size m = omega (arith, parts, rest, id) in
    frame_bytes p ∙ ap encoded_size size

sent_bytes : (q : Qos) (i : ℕ) (m : Message) (e : End) → m.qos ≡ q → is_up e.state ≡ true → length (encodings (publishes_at q i m e).out) ≡ publish_bytes m
sent_bytes Q0 i m e is up = packet_bytes m None (sym (ap identifier_size is))
sent_bytes Q1 i m e is up =
    ap (λ (ps : List Packet). length (encodings ps)) (cond-true (is_up e.state) (publish_packet i false m ∷ []) [] up)
    ∙ packet_bytes m (Some (record { id = i; dup = false })) (sym (ap identifier_size is))
sent_bytes Q2 i m e is up =
    ap (λ (ps : List Packet). length (encodings ps)) (cond-true (is_up e.state) (publish_packet i false m ∷ []) [] up)
    ∙ packet_bytes m (Some (record { id = i; dup = false })) (sym (ap identifier_size is))

-- the client stays connected
pub still_up : (m : Message) (s : EndState) → is_up s.end.state ≡ true → is_up (published m s).end.state ≡ true
still_up m s up = ap is_up (after_state m.qos (next_identifier s.end.last s.end.book) m s.end) ∙ up

-- ---- the space of its client's session

free_next : (m : Message) (s : EndState) → free_of (published m s) ≡ cond (has_identifier m.qos) (free_of s - 1) (free_of s)
free_next m s =
    let u = length (uses s.end.book) in
    ap (λ (n : ℕ). s.capacity - n) (after_uses m.qos (next_identifier s.end.last s.end.book) m s.end) ∙ go (has_identifier m.qos) u
  where
    go : (b : Bool) (u : ℕ) → s.capacity - (cond b 1 0 + u) ≡ cond b (s.capacity - u - 1) (s.capacity - u)
    go true u = omega arith
    go false u = omega arith

stored_next : (o : Option ℕ) (m : Message) (s : EndState) → left_of o (stored_bytes (published m s).end.book)
    ≡ cond (has_identifier m.qos) (left_of (left_of o (stored_bytes s.end.book)) (message_bytes m)) (left_of o (stored_bytes s.end.book))
stored_next o m s = ap (left_of o) (after_bytes m.qos (next_identifier s.end.last s.end.book) m s.end) ∙ go (has_identifier m.qos) (stored_bytes s.end.book)
  where
    go : (b : Bool) (used : ℕ) → left_of o (used + cond b (message_bytes m) 0) ≡ cond b (left_of (left_of o used) (message_bytes m)) (left_of o used)
    go true used = left_twice o used (used + message_bytes m) (message_bytes m) refl
    go false used = let same : used + 0 ≡ used = omega arith in ap (left_of o) same

waiting_next : (o : Option ℕ) (queued : ℕ) (m : Message) (s : EndState) → is_up s.end.state ≡ true
    → left_of o (queued + length (published m s).output) ≡ left_of (left_of o (queued + length s.output)) (publish_bytes m)
waiting_next o queued m s up =
    let more = length-append s.output (encodings (publishes_next m s.end).out) in
    let sent = sent_bytes m.qos (next_identifier s.end.last s.end.book) m s.end refl up in
    left_twice o (queued + length s.output) (queued + length (published m s).output) (publish_bytes m) (omega (arith, more, sent))

pub space_next : (rules : CopyRules) (queued : ℕ) (m : Message) (s : EndState) → is_up s.end.state ≡ true
    → space_of rules queued (published m s) ≡ space_after m (space_of rules queued s)
space_next rules queued m s up =
    let free = free_next m s in
    let stored = stored_next rules.most_stored m s in
    let waiting = waiting_next rules.most_waiting queued m s up in
    λ i. record { free = free i; stored = stored i; waiting = waiting i }

-- the space is the same after bytes are queued that were counted before
pub same_space : (rules : CopyRules) (queued : ℕ) (s t : EndState) → s.capacity ≡ t.capacity → s.end.book ≡ t.end.book → length s.output ≡ queued + length t.output
    → space_of rules 0 s ≡ space_of rules queued t
same_space rules queued s t capacity book output =
    let free = ap₂ (λ (n : ℕ) (b : SenderBook). n - length (uses b)) capacity book in
    let stored = ap (λ (b : SenderBook). left_of rules.most_stored (stored_bytes b)) book in
    let waiting = ap (λ (n : ℕ). left_of rules.most_waiting n) (zero-add (length s.output) ∙ output) in
    λ i. record { free = free i; stored = stored i; waiting = waiting i }

-- ---- whether a message is missed

-- one of QoS 0
pub skips_plain : (rules : CopyRules) (space : Space) (m : Message) (fits : Bool) (bytes : ℕ) → has_identifier m.qos ≡ false → bytes ≡ publish_bytes m → fits ≡ fits_left space.waiting bytes
    → not fits ≡ skips rules space m
skips_plain rules space m fits bytes plain bytes_is fits_is =
    ap not (fits_is ∙ ap (fits_left space.waiting) bytes_is)
    ∙ go (drops_copies rules.when_full) (fits_left space.waiting (publish_bytes m))
    ∙ ap (λ (b : Bool). (drops_copies rules.when_full && (b && (eqb space.free 0 || not (fits_left space.stored (message_bytes m)))))
    || (not (fits_left space.waiting (publish_bytes m)) && not b)) (sym plain)
  where
    go : (d f : Bool) → not f ≡ ((d && false) || (not f && true))
    go true true = refl
    go true false = refl
    go false true = refl
    go false false = refl

-- one of QoS 1 or 2
pub skips_kept : (rules : CopyRules) (space : Space) (m : Message) (drops short : Bool) → has_identifier m.qos ≡ true → drops ≡ drops_copies rules.when_full
    → short ≡ (eqb space.free 0 || not (fits_left space.stored (message_bytes m))) → (drops && short) ≡ skips rules space m
skips_kept rules space m drops short has drops_is short_is =
    ap₂ (λ (a b : Bool). a && b) drops_is short_is
    ∙ go (drops_copies rules.when_full) (eqb space.free 0 || not (fits_left space.stored (message_bytes m))) (fits_left space.waiting (publish_bytes m))
    ∙ ap (λ (b : Bool). (drops_copies rules.when_full && (b && (eqb space.free 0 || not (fits_left space.stored (message_bytes m)))))
    || (not (fits_left space.waiting (publish_bytes m)) && not b)) (sym has)
  where
    go : (d x f : Bool) → (d && x) ≡ ((d && (true && x)) || (not f && false))
    go true true f = refl
    go true false true = refl
    go true false false = refl
    go false x true = refl
    go false x false = refl
