-- Lengths of encodings, and of the bytes of packets.
use Rattle.std.proofs.Common.{◌≡◌, ℕ, ◌+◌, ◌≤◌, false, true, Bool, List, [], ◌∷◌, ◌++◌, length, refl, ap, ◌∙◌, arith}
use Rattle.std.proofs.lemmas.List.{length-append}
use Rattle.std.proofs.lemmas.Grind.{flat_map-append}
use Rattle.mq_wire.specs.Length.{Digits, LengthUnder, length_bytes}
use Rattle.mq_packet.specs.declared.connack.ConnAck.{ConnAck}
use Rattle.mq_packet.specs.declared.connack.ConnAck.TheVariants as connacks
use Rattle.mq_packet.specs.declared.packet.Packet.{Packet}
use Rattle.mq_packet.specs.declared.packet.Packet.TheVariants as packets
use Rattle.mq_packet.specs.Encoding.{EncodingLaws, fields, first_byte, encoding, encodings}
use Rattle.mq_decode.specs.Grammar.{Reads}
use Rattle.mq_end.specs.State.{EncodesAll, PutsOut}

-- a remaining length has at least one byte
some_digits : (n : ℕ) (b : List ℕ) → Digits n b → 1 ≤ length b
some_digits n [] h = absurd h
some_digits n (x ∷ xs) h = omega arith

pub some_length : (lenient : Bool) (n : ℕ) (b : List ℕ) → LengthUnder lenient n b → 1 ≤ length b
some_length false n b h = some_digits n b h.0
some_length true n b h = some_digits n b h.0

sized : (p : Packet) (len b : List ℕ) → 1 ≤ length len → b ≡ first_byte p ∷ len ++ fields p → 2 + length (fields p) ≤ length b
sized p len b some e =
    let whole = ap length e in
    let parts = length-append len (fields p) in
    omega arith

-- a packet has at least two bytes more than its fields (2.2)
pub read_size : (lenient : Bool) (p : Packet) (b : List ℕ) → Reads lenient p b → 2 + length (fields p) ≤ length b
read_size false p b h = sized p h.len b (some_length false (length (fields p)) h.len h.formed) h.bytes
read_size true p b h = sized p h.len b (some_length true (length (fields p)) h.len h.formed) h.bytes

-- ---- answers

pub connack_size : (a : ConnAck) → length (encodings (packets.ConnAck a ∷ [])) ≡ 4
unfolding encoding length_bytes
connack_size (connacks.Accepted present) = refl
connack_size (connacks.Refused code) = refl

pub puback_size : (i : ℕ) → length (encodings (packets.PubAck i ∷ [])) ≡ 4
unfolding encoding length_bytes
puback_size i = refl

pub pubrec_size : (i : ℕ) → length (encodings (packets.PubRec i ∷ [])) ≡ 4
unfolding encoding length_bytes
pubrec_size i = refl

pub pubrel_size : (i : ℕ) → length (encodings (packets.PubRel i ∷ [])) ≡ 4
unfolding encoding length_bytes
pubrel_size i = refl

pub pubcomp_size : (i : ℕ) → length (encodings (packets.PubComp i ∷ [])) ≡ 4
unfolding encoding length_bytes
pubcomp_size i = refl

pub pingresp_size : length (encodings (packets.PingResp ∷ [])) ≡ 2
unfolding encoding length_bytes
pingresp_size = refl

-- ---- packets, one after another

pub joined_size : (ps qs : List Packet) → length (encodings (ps ++ qs)) ≡ length (encodings ps) + length (encodings qs)
joined_size ps qs = ap length (flat_map-append encoding ps qs) ∙ length-append (encodings ps) (encodings qs)

pub encoded_is : EncodingLaws → (ps : List Packet) (b : List ℕ) → EncodesAll ps b → b ≡ encodings ps
encoded_is laws [] b h = h
encoded_is laws (p ∷ ps) b h =
    h.4 ∙ ap (λ (s : List ℕ). s ++ h.1) (laws.one p h.0 h.2) ∙ ap (λ (s : List ℕ). encoding p ++ s) (encoded_is laws ps h.1 h.3)

-- the pending output grows by the encodings
pub put_size : EncodingLaws → (ps : List Packet) (old new : List ℕ) → PutsOut ps old new → length new ≡ length old + length (encodings ps)
put_size laws ps old new h =
    let all = ap length h.2 ∙ length-append old h.0 in
    let same = ap length (encoded_is laws ps h.0 h.1) in
    omega arith
