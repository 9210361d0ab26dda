-- Packets in a buffer.
use Rattle.std.proofs.Common.{◌≡◌, ℕ, ◌+◌, ◌≤◌, ◌<◌, ◌^◌, List, [], ◌∷◌, ◌++◌, length, take, drop, Result, Ok, Err, refl, sym, ap, subst, ◌∙◌, arith}
use Rattle.std.proofs.lemmas.List.{length-append}
use Rattle.mq_wire.specs.Length.{length_bytes}
use Rattle.mq_wire.specs.Reading.{LengthLaws}
use Rattle.mq_packet.specs.declared.packet.Packet.{Packet}
use Rattle.mq_packet.specs.Values.{IsPacket}
use Rattle.mq_packet.specs.Encoding.{encoded_size, fields, first_byte}
use Rattle.mq_bytes.specs.declared.fault.EncodeFault.{EncodeFault}
use Rattle.mq_bytes.specs.declared.fault.EncodeFault.TheVariants.{Argument, TooLarge, Room}
use Rattle.mq_packet.specs.declared.packet.Packet.TheVariants as packets
use Rattle.mq_wire.specs.Number.{number}
use Rattle.mq_packet.specs.Identifier.{IsIdentifier}
use Rattle.mq_bytes.specs.Arguments.{IsAcknowledgementOf, IsBareOf}
use Rattle.mq_bytes.specs.Buffers.{Filled, Gives, Holds}
use Rattle.mq_bytes.specs.Inside.Buffers.{EncodesParts, Frames}
use Rattle.mq_bytes.proofs.Filling.{Puts, fields_fill, filled_front, filled_behind, filled_length}

-- the bytes of a packet with this first byte and these fields
abbrev pub framed : ℕ → List ℕ → List ℕ
framed first body = first ∷ (length_bytes (length body) ++ body)

framed_size : (first : ℕ) (body : List ℕ) → length (framed first body) ≡ encoded_size (length body)
framed_size first body = let parts = length-append (length_bytes (length body)) body in omega arith

pub frames_hold : LengthLaws → (p : Packet) (first : ℕ) (body old new : List ℕ) (n : ℕ) → IsPacket p → first ≡ first_byte p → body ≡ fields p → Frames first body old new n → Holds p old new n
frames_hold lengths p first body old new n packet is_first is_body f =
    let whole = framed first body in
    let size : n ≡ length whole = f.1 ∙ sym (framed_size first body) in
    let within : length whole ≤ length old = subst (λ (k : ℕ). k ≤ length old) size f.2 in
    let front : take n new ≡ whole = ap (λ (k : ℕ). take k new) size ∙ filled_front old whole new f.0 in
    let same : whole ≡ first_byte p ∷ (length_bytes (length (fields p)) ++ fields p) = ap (λ (b : List ℕ). framed first b) is_body ∙ ap (λ (k : ℕ). k ∷ (length_bytes (length (fields p)) ++ fields p)) is_first in
    record {
      within = f.2;
      encodes = record {
        packet = packet;
        len = length_bytes (length (fields p));
        formed = lengths.exists (length (fields p)) (subst (λ (b : List ℕ). length b < 2 ^ 28) is_body f.3);
        bytes = front ∙ same;
      };
      rest = ap (λ (k : ℕ). drop k new) size ∙ (filled_behind old whole new f.0 ∙ ap (λ (k : ℕ). drop k old) (sym size));
      same = filled_length old whole new within f.0;
    }

-- A packet whose first byte and fields were written.
pub parts_give : LengthLaws → (Is : Packet → Type 0) (p : Packet) (first : ℕ) (body old new : List ℕ) (r : Result ℕ EncodeFault) → Is p → IsPacket p → first ≡ first_byte p → body ≡ fields p → EncodesParts first body old new r → Gives Is old new r
parts_give lengths Is p first body old new (Ok n) is packet is_first is_body h = (p, is, frames_hold lengths p first body old new n packet is_first is_body h)
parts_give lengths Is p first body old new (Err TooLarge) is packet is_first is_body h = (p, is, subst (λ (b : List ℕ). 2 ^ 28 ≤ length b) is_body h.0, h.1)
parts_give lengths Is p first body old new (Err Room) is packet is_first is_body h = (p, is, subst (λ (b : List ℕ). length old < encoded_size (length b)) is_body h.0, h.1)
parts_give lengths Is p first body old new (Err Argument) is packet is_first is_body h = absurd h

-- The result of writing the fields.
pub fields_framed : (first rest at : ℕ) (body old mid new : List ℕ) → rest ≡ length body → at + rest ≤ length old → at ≡ 1 + length (length_bytes rest) → rest < 2 ^ 28
    → Filled old (first ∷ length_bytes rest) mid → Puts at body mid new → Frames first body old new (at + rest)
fields_framed first rest at body old mid new size within here small f put =
    let filled = fields_fill first at (length_bytes rest) body old mid new f put here in
    let all : length (length_bytes rest) ≡ length (length_bytes (length body)) = ap (λ (k : ℕ). length (length_bytes k)) size in
    (subst (λ (k : ℕ). Filled old (first ∷ (length_bytes k ++ body)) new) size filled, omega arith, within, subst (λ (k : ℕ). k < 2 ^ 28) size small)

-- The same of four parts.
pub parts_framed : (first rest at : ℕ) (a b c d old mid new : List ℕ) → rest ≡ length a + (length b + (length c + length d)) → at + rest ≤ length old → at ≡ 1 + length (length_bytes rest) → rest < 2 ^ 28
    → Filled old (first ∷ length_bytes rest) mid → Puts at (a ++ (b ++ (c ++ d))) mid new → Frames first (a ++ (b ++ (c ++ d))) old new (at + rest)
parts_framed first rest at a b c d old mid new is within here small f put =
    let one = length-append a (b ++ (c ++ d)) in
    let two = length-append b (c ++ d) in
    let three = length-append c d in
    let size : rest ≡ length (a ++ (b ++ (c ++ d))) = omega arith in
    fields_framed first rest at (a ++ (b ++ (c ++ d))) old mid new size within here small f put

-- ---- packets

pub ping_request : LengthLaws → (old new : List ℕ) (r : Result ℕ EncodeFault) → EncodesParts 0xc0 [] old new r → Gives (IsBareOf 12) old new r
ping_request laws old new r h = parts_give laws (IsBareOf 12) packets.PingReq 0xc0 [] old new r refl tt refl refl h

pub ping_response : LengthLaws → (old new : List ℕ) (r : Result ℕ EncodeFault) → EncodesParts 0xd0 [] old new r → Gives (IsBareOf 13) old new r
ping_response laws old new r h = parts_give laws (IsBareOf 13) packets.PingResp 0xd0 [] old new r refl tt refl refl h

pub disconnect : LengthLaws → (old new : List ℕ) (r : Result ℕ EncodeFault) → EncodesParts 0xe0 [] old new r → Gives (IsBareOf 14) old new r
disconnect laws old new r h = parts_give laws (IsBareOf 14) packets.Disconnect 0xe0 [] old new r refl tt refl refl h

pub no_bare : (kind : ℕ) → (kind ≡ 12 → ⊥) → (kind ≡ 13 → ⊥) → (kind ≡ 14 → ⊥) → (p : Packet) → IsPacket p → IsBareOf kind p → ⊥
no_bare kind a b c (packets.Connect x) q h = h
no_bare kind a b c (packets.ConnAck x) q h = h
no_bare kind a b c (packets.Publish x) q h = h
no_bare kind a b c (packets.PubAck x) q h = h
no_bare kind a b c (packets.PubRec x) q h = h
no_bare kind a b c (packets.PubRel x) q h = h
no_bare kind a b c (packets.PubComp x) q h = h
no_bare kind a b c (packets.Subscribe x y) q h = h
no_bare kind a b c (packets.SubAck x y) q h = h
no_bare kind a b c (packets.Unsubscribe x y) q h = h
no_bare kind a b c (packets.UnsubAck x) q h = h
no_bare kind a b c packets.PingReq q h = a h
no_bare kind a b c packets.PingResp q h = b h
no_bare kind a b c packets.Disconnect q h = c h

pub puback : LengthLaws → (id : ℕ) (old new : List ℕ) (r : Result ℕ EncodeFault) → IsIdentifier id → EncodesParts 0x40 (number id ++ ([] ++ ([] ++ []))) old new r → Gives (IsAcknowledgementOf 4 id) old new r
puback laws id old new r is h = parts_give laws (IsAcknowledgementOf 4 id) (packets.PubAck id) 0x40 (number id) old new r (refl, refl) is refl refl h

pub pubrec : LengthLaws → (id : ℕ) (old new : List ℕ) (r : Result ℕ EncodeFault) → IsIdentifier id → EncodesParts 0x50 (number id ++ ([] ++ ([] ++ []))) old new r → Gives (IsAcknowledgementOf 5 id) old new r
pubrec laws id old new r is h = parts_give laws (IsAcknowledgementOf 5 id) (packets.PubRec id) 0x50 (number id) old new r (refl, refl) is refl refl h

pub pubrel : LengthLaws → (id : ℕ) (old new : List ℕ) (r : Result ℕ EncodeFault) → IsIdentifier id → EncodesParts 0x62 (number id ++ ([] ++ ([] ++ []))) old new r → Gives (IsAcknowledgementOf 6 id) old new r
pubrel laws id old new r is h = parts_give laws (IsAcknowledgementOf 6 id) (packets.PubRel id) 0x62 (number id) old new r (refl, refl) is refl refl h

pub pubcomp : LengthLaws → (id : ℕ) (old new : List ℕ) (r : Result ℕ EncodeFault) → IsIdentifier id → EncodesParts 0x70 (number id ++ ([] ++ ([] ++ []))) old new r → Gives (IsAcknowledgementOf 7 id) old new r
pubcomp laws id old new r is h = parts_give laws (IsAcknowledgementOf 7 id) (packets.PubComp id) 0x70 (number id) old new r (refl, refl) is refl refl h

pub unsuback : LengthLaws → (id : ℕ) (old new : List ℕ) (r : Result ℕ EncodeFault) → IsIdentifier id → EncodesParts 0xb0 (number id ++ ([] ++ ([] ++ []))) old new r → Gives (IsAcknowledgementOf 11 id) old new r
unsuback laws id old new r is h = parts_give laws (IsAcknowledgementOf 11 id) (packets.UnsubAck id) 0xb0 (number id) old new r (refl, refl) is refl refl h

pub no_acknowledgement : (kind id : ℕ) → (kind ≡ 4 → ⊥) → (kind ≡ 5 → ⊥) → (kind ≡ 6 → ⊥) → (kind ≡ 7 → ⊥) → (kind ≡ 11 → ⊥) → (p : Packet) → IsPacket p → IsAcknowledgementOf kind id p → ⊥
no_acknowledgement kind id a b c d e (packets.Connect x) q h = h
no_acknowledgement kind id a b c d e (packets.ConnAck x) q h = h
no_acknowledgement kind id a b c d e (packets.Publish x) q h = h
no_acknowledgement kind id a b c d e (packets.PubAck x) q h = a h.0
no_acknowledgement kind id a b c d e (packets.PubRec x) q h = b h.0
no_acknowledgement kind id a b c d e (packets.PubRel x) q h = c h.0
no_acknowledgement kind id a b c d e (packets.PubComp x) q h = d h.0
no_acknowledgement kind id a b c d e (packets.Subscribe x y) q h = h
no_acknowledgement kind id a b c d e (packets.SubAck x y) q h = h
no_acknowledgement kind id a b c d e (packets.Unsubscribe x y) q h = h
no_acknowledgement kind id a b c d e (packets.UnsubAck x) q h = e h.0
no_acknowledgement kind id a b c d e packets.PingReq q h = h
no_acknowledgement kind id a b c d e packets.PingResp q h = h
no_acknowledgement kind id a b c d e packets.Disconnect q h = h

pub no_identifier : (kind id : ℕ) → id ≡ 0 → (p : Packet) → IsPacket p → IsAcknowledgementOf kind id p → ⊥
no_identifier kind id e (packets.Connect x) q h = h
no_identifier kind id e (packets.ConnAck x) q h = h
no_identifier kind id e (packets.Publish x) q h = h
no_identifier kind id e (packets.PubAck x) q h = absurd (omega (arith, q.0, h.1, e))
no_identifier kind id e (packets.PubRec x) q h = absurd (omega (arith, q.0, h.1, e))
no_identifier kind id e (packets.PubRel x) q h = absurd (omega (arith, q.0, h.1, e))
no_identifier kind id e (packets.PubComp x) q h = absurd (omega (arith, q.0, h.1, e))
no_identifier kind id e (packets.Subscribe x y) q h = h
no_identifier kind id e (packets.SubAck x y) q h = h
no_identifier kind id e (packets.Unsubscribe x y) q h = h
no_identifier kind id e (packets.UnsubAck x) q h = absurd (omega (arith, q.0, h.1, e))
no_identifier kind id e packets.PingReq q h = h
no_identifier kind id e packets.PingResp q h = h
no_identifier kind id e packets.Disconnect q h = h
