-- A second answer breaks the bounds.
use Rattle.std.specs.Str.{IsAscii}
use Rattle.std.proofs.Common.{◌≡◌, ℕ, zero, suc, ◌<◌, ◌^◌, false, List, [], ◌∷◌, length, refl, subst, arith}
use Rattle.std.proofs.lemmas.Str.{IsUtf8-from_ascii, is_utf8-from_IsUtf8}
use Rattle.mq_wire.specs.Length.{length_bytes}
use Rattle.mq_topic.specs.Topic.{IsTopicName}
use Rattle.mq_packet.specs.declared.packet.Packet.{Packet}
use Rattle.mq_packet.specs.declared.packet.Packet.TheVariants as packets
use Rattle.mq_packet.specs.Identifier.{IsIdentifier}
use Rattle.mq_packet.specs.Values.{IsPacket}
use Rattle.mq_packet.specs.Encoding.{EncodingLaws, fields, encoding, encodings}
use Rattle.mq_end.specs.End.{End, Reply, sends_packets}
use Rattle.mq_route.specs.Bounds.Costs.{book_for}
use Rattle.mq_route.specs.Bounds.Ends.{PacketBounds}
use Rattle.mq_route.specs.Bounds.Sharp.{duplicate, SharpLaws}
use Rattle.mq_route.proofs.Bounds.Packets.{OutWithin}
use Rattle.mq_route.proofs.Bounds.Lengths.{pubrec_size, pubcomp_size, joined_size}

topic_ascii : IsAscii (116 ∷ [])
topic_ascii zero = omega arith
topic_ascii (suc i) = omega arith

topic_is_name : IsTopicName (116 ∷ [])
topic_is_name = record { text = record { utf8 = is_utf8-from_IsUtf8 (116 ∷ []) (IsUtf8-from_ascii (116 ∷ []) topic_ascii); no_nul = refl; short = omega arith }; name = refl }

is_packet : (i : ℕ) → IsIdentifier i → IsPacket (duplicate i)
is_packet i h = record { message = record { topic = topic_is_name; payload = omega arith }; fits = refl; identifier = h }

seven : (i : ℕ) → length (encoding (duplicate i)) ≡ 7
unfolding encoding length_bytes
seven i = refl

four : (i : ℕ) → length (encoding (packets.PubRel i)) ≡ 4
unfolding encoding length_bytes
four i = refl

-- the answer is longer than the packet
broken : EncodingLaws → (gets : Packet → End → Reply) (p : Packet) (ps : List Packet) (e f : End) → IsPacket p → length (fields p) < 2 ^ 28 → gets p e ≡ sends_packets ps f → length (encoding p) < length (encodings ps) → PacketBounds gets → ⊥
broken laws gets p ps e f right small is more bounds =
    let within : OutWithin (length (encoding p)) (book_for p e.book) (sends_packets ps f) = subst (OutWithin (length (encoding p)) (book_for p e.book)) is (bounds.answer false p (encoding p) e (laws.exists p right small)) in
    omega arith

pub laws : EncodingLaws → SharpLaws
laws encoding_laws = record {
  pubrel_twice = λ gets e f i h is bounds.
      let size = four i in
      let one = pubcomp_size i in
      let both = joined_size (packets.PubComp i ∷ []) (packets.PubComp i ∷ []) in
      broken encoding_laws gets (packets.PubRel i) (packets.PubComp i ∷ packets.PubComp i ∷ []) e f h (omega arith) is (omega arith) bounds;
  pubrec_twice = λ gets e f i h is bounds.
      let size = seven i in
      let one = pubrec_size i in
      let both = joined_size (packets.PubRec i ∷ []) (packets.PubRec i ∷ []) in
      broken encoding_laws gets (duplicate i) (packets.PubRec i ∷ packets.PubRec i ∷ []) e f (is_packet i h) (omega arith) is (omega arith) bounds;
}
