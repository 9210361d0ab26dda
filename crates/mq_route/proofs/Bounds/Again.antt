-- An upper bound on the retransmissions.
use Rattle.std.proofs.Common.{◌≡◌, ℕ, ◌+◌, ◌*◌, ◌≤◌, Bool, true, false, cond, ltb, List, [], ◌∷◌, map, length, All, refl, ap, arith}
use Rattle.std.proofs.lemmas.List.{length-append}
use Rattle.std.proofs.lemmas.List.Elements.{All-head, All-tail}
use Rattle.mq_wire.specs.Length.{length_bytes}
use Rattle.mq_packet.specs.declared.packet.Packet.{Packet}
use Rattle.mq_packet.specs.declared.packet.Packet.TheVariants as packets
use Rattle.mq_packet.specs.Encoding.{fields, encoding, encodings}
use Rattle.mq_flow.specs.declared.entry.SenderEntry.{SenderEntry}
use Rattle.mq_flow.specs.Sender.{SenderBook, uses, publish_packet, resent}
use Rattle.mq_flow.proofs.Books.{length_uses}
use Rattle.mq_route.proofs.Bounds.Lengths.{joined_size, pubrel_size}

-- a remaining length has four bytes at most (2.2.3)
pub few_bytes : (n : ℕ) → length (length_bytes n) ≤ 4
unfolding length_bytes
few_bytes n = by (ltb n 128) _ _ (omega arith) (by (ltb n 16384) _ _ (omega arith) (by (ltb n 2097152) _ _ (omega arith) (omega arith)))
  where
    by : (b : Bool) (x y : List ℕ) → length x ≤ 4 → length y ≤ 4 → length (cond b x y) ≤ 4
    by true x y h k = h
    by false x y h k = k

encoding_size : (p : Packet) → length (encoding p) ≤ 5 + length (fields p)
unfolding encoding
encoding_size p =
    let few = few_bytes (length (fields p)) in
    let parts = length-append (length_bytes (length (fields p))) (fields p) in
    omega arith

releases_size : (ids : List ℕ) → length (encodings (map packets.PubRel ids)) ≡ length ids * 4
releases_size [] = refl
releases_size (i ∷ ids) =
    let rest = releases_size ids in
    let one = pubrel_size i in
    let parts = joined_size (packets.PubRel i ∷ []) (map packets.PubRel ids) in
    omega arith

publishes_size : (limit : ℕ) (es : List SenderEntry) → All (λ (x : SenderEntry). length (fields (publish_packet x.id x.sent x.message)) ≤ limit) es
    → length (encodings (map (λ (x : SenderEntry). publish_packet x.id x.sent x.message) es)) ≤ length es * (5 + limit)
publishes_size limit [] h = omega arith
publishes_size limit (x ∷ xs) h =
    let here = All-head (λ (x : SenderEntry). length (fields (publish_packet x.id x.sent x.message)) ≤ limit) x xs h in
    let rest = publishes_size limit xs (All-tail (λ (x : SenderEntry). length (fields (publish_packet x.id x.sent x.message)) ≤ limit) x xs h) in
    let one = encoding_size (publish_packet x.id x.sent x.message) in
    let parts = length-append (encoding (publish_packet x.id x.sent x.message)) (encodings (map (λ (x : SenderEntry). publish_packet x.id x.sent x.message) xs)) in
    omega arith

in_all : (a r c limit : ℕ) → a * (5 + limit) + r * 4 ≤ (a + (r + c)) * (5 + limit)
in_all a r c limit = omega arith

pub again_size : (limit : ℕ) (b : SenderBook) → All (λ (x : SenderEntry). length (fields (publish_packet x.id x.sent x.message)) ≤ limit) b.entries → length (encodings (resent b)) ≤ length (uses b) * (5 + limit)
again_size limit b h =
    let used = ap (λ (n : ℕ). n * (5 + limit)) (length_uses b) in
    let parts = joined_size (map packets.PubRel b.released) (map (λ (x : SenderEntry). publish_packet x.id x.sent x.message) b.entries) in
    let releases = releases_size b.released in
    let publishes = publishes_size limit b.entries h in
    let whole = in_all (length b.entries) (length b.released) (length b.claimed) limit in
    omega (arith, used)
