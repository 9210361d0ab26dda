-- A packet, and a list of packets, has exactly one encoding.
use Rattle.std.proofs.Common.{◌≡◌, ℕ, ◌<◌, ◌^◌, List, [], ◌∷◌, ◌++◌, length, refl, ap, ◌∙◌, arith}
use Rattle.std.proofs.lemmas.List.{length-append}
use Rattle.mq_wire.specs.Reading.{LengthLaws}
use Rattle.mq_wire.specs.Length.{length_bytes}
use Rattle.mq_packet.specs.declared.packet.Packet.{Packet}
use Rattle.mq_packet.specs.Values.{IsPacket}
use Rattle.mq_packet.specs.Encoding.{Encodes, EncodesAll, EncodingLaws, first_byte, fields, encoded_size, encoding, encodings}

exists : LengthLaws → (p : Packet) → IsPacket p → length (fields p) < 2 ^ 28 → Encodes p (encoding p)
unfolding encoding
exists lengths p h small = record { packet = h; len = length_bytes (length (fields p)); formed = lengths.exists (length (fields p)) small; bytes = refl }

one : LengthLaws → (p : Packet) (b : List ℕ) → Encodes p b → b ≡ encoding p
unfolding encoding
one lengths p b h = h.bytes ∙ ap (λ (len : List ℕ). first_byte p ∷ len ++ fields p) (lengths.one (length (fields p)) h.len h.formed)

size : LengthLaws → (p : Packet) (b : List ℕ) → Encodes p b → length b ≡ encoded_size (length (fields p))
size lengths p b h =
    let n = length (fields p) in
    let same = ap length (lengths.one n h.len h.formed) in
    let whole = ap length h.bytes in
    let parts = length-append h.len (fields p) in
    omega arith

all : LengthLaws → (ps : List Packet) (b : List ℕ) → EncodesAll ps b → b ≡ encodings ps
all lengths [] b h = h
all lengths (p ∷ ps) b h =
    h.4 ∙ (ap (λ (s : List ℕ). s ++ h.1) (one lengths p h.0 h.2) ∙ ap (λ (s : List ℕ). encoding p ++ s) (all lengths ps h.1 h.3))

pub laws : LengthLaws → EncodingLaws
laws lengths = record { exists = exists lengths; one = one lengths; size = size lengths; all = all lengths }
