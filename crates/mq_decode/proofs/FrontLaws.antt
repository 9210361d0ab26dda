-- The laws of the front of a buffer: each case of the grammar is read as such, and each result is a
-- case of the grammar.
use Rattle.std.proofs.Common.{◌≡◌, ℕ, ◌+◌, Bool, true, false, ltb, List, ◌∷◌, ◌++◌, length, take, drop, Option, Some, None, Result, Ok, Err, refl, sym, ap, ◌∙◌, append_assoc, arith}
use Rattle.std.proofs.lemmas.Bool.{le-ltb}
use Rattle.std.proofs.lemmas.List.{take_at, drop_at, length-append}
use Rattle.mq_wire.specs.Length.{LengthUnder}
use Rattle.mq_packet.specs.declared.packet.Packet.{Packet}
use Rattle.mq_packet.specs.Values.{IsPacket}
use Rattle.mq_packet.specs.Encoding.{Encodes, fields, first_byte}
use Rattle.mq_decode.specs.declared.fault.FaultKind.{FaultKind}
use Rattle.mq_decode.specs.declared.fault.FaultKind.TheVariants.{LengthTooLong, LengthOverlong}
use Rattle.mq_decode.specs.declared.fault.DecodeFault.{DecodeFault}
use Rattle.mq_decode.specs.declared.kind.Kind.{Kind}
use Rattle.mq_decode.specs.Kind.{kind_at, size_fault}
use Rattle.mq_decode.specs.Bodies.{body_at}
use Rattle.mq_decode.specs.Inside.Front.{fault_at, sized, header_at, len_told, packet_or_fault, front_at}
use Rattle.mq_decode.specs.Limits.{Bounds}
use Rattle.mq_decode.specs.Grammar.{Reads, ReadsWithin, FirstFault, BadLength, SizeFault, HasHeader, Faulty, AtFirst, AtLength, AtSize, AtField, Pending}
use Rattle.mq_decode.proofs.FieldLaws.{Wire}
use Rattle.mq_decode.proofs.KindLaws.{kind_of, kind_again, size_again}
use Rattle.mq_decode.proofs.BodyLaws.{body_again}

abbrev pub Read : Type 0
Read = Result (Option (Packet × ℕ)) DecodeFault

-- ---- Packets under all limits

-- its parts
pub record Parts (lenient : Bool) (p : Packet) (b : List ℕ) : Type 0 where
  pub packet : IsPacket p
  pub len : List ℕ
  pub formed : LengthUnder lenient (length (fields p)) len
  pub bytes : b ≡ first_byte p ∷ len ++ fields p

pub parts_of : (lenient : Bool) (p : Packet) (b : List ℕ) → Reads lenient p b → Parts lenient p b
parts_of false p b h = record { packet = h.packet; len = h.len; formed = h.formed; bytes = h.bytes }
parts_of true p b h = record { packet = h.packet; len = h.len; formed = h.formed; bytes = h.bytes }

pub reads_from : (lenient : Bool) (p : Packet) (b : List ℕ) → Parts lenient p b → Reads lenient p b
reads_from false p b h = record { packet = h.packet; len = h.len; formed = h.formed; bytes = h.bytes }
reads_from true p b h = record { packet = h.packet; len = h.len; formed = h.formed; bytes = h.bytes }

-- An encoding is read under all limits.
pub encoded_reads : (w : Wire) (lenient : Bool) (p : Packet) (b : List ℕ) → Encodes p b → Reads lenient p b
encoded_reads w lenient p b h = reads_from lenient p b (record { packet = h.packet; len = h.len; formed = w.lengths.reads lenient (length (fields p)) h.len h.formed; bytes = h.bytes })

-- ---- a header that is right

pub header_is : (w : Wire) (limit : Bounds) (first n : ℕ) (kind : Kind) (len rest : List ℕ) → kind_at first ≡ Ok kind → LengthUnder limit.lenient n len → header_at limit (first ∷ (len ++ rest)) ≡ sized (size_fault limit.most kind n) kind (length len) n
unfolding header_at
header_is w limit first n kind len rest right formed = rw (right, w.lengths.again limit.lenient n len rest formed) refl

body_is : (first : ℕ) (len body rest : List ℕ) → take (length body) (drop (1 + length len) (first ∷ (len ++ (body ++ rest)))) ≡ body
body_is first len body rest =
    let back : drop (1 + length len) (first ∷ (len ++ (body ++ rest))) ≡ body ++ rest = drop_at (first ∷ len) (body ++ rest) (1 + length len) (omega arith) in
    rw back (take_at body rest (length body) refl)

whole_long : (first : ℕ) (len body rest : List ℕ) → ltb (length (first ∷ (len ++ (body ++ rest)))) (1 + length len + length body) ≡ false
whole_long first len body rest = le-ltb _ _ (omega (arith, length-append len (body ++ rest), length-append body rest))

-- with a right header and all bytes, the fields decide
front_is : (w : Wire) (limit : Bounds) (first : ℕ) (kind : Kind) (len body rest : List ℕ) → kind_at first ≡ Ok kind → LengthUnder limit.lenient (length body) len → size_fault limit.most kind (length body) ≡ None
    → front_at limit (first ∷ (len ++ (body ++ rest))) ≡ packet_or_fault (1 + length len + length body) (body_at kind body)
unfolding front_at
front_is w limit first kind len body rest right formed size =
    rw (header_is w limit first (length body) kind len (body ++ rest) right formed, size, whole_long first len body rest, body_is first len body rest) refl

-- ---- An encoding is read, whatever follows it

pub whole_again : (w : Wire) (limit : Bounds) (p : Packet) (s rest : List ℕ) → ReadsWithin limit p s → front_at limit (s ++ rest) ≡ Ok (Some (p, length s))
whole_again w limit p s rest h =
    let parts = parts_of limit.lenient p s h.0 in
    let len = parts.len in
    let regrouped : s ++ rest ≡ first_byte p ∷ (len ++ (fields p ++ rest)) = ap (λ (t : List ℕ). t ++ rest) parts.bytes ∙ ap (λ (t : List ℕ). first_byte p ∷ t) (append_assoc len (fields p) rest) in
    let count : 1 + length len + length (fields p) ≡ length s = omega (arith, ap length parts.bytes, length-append len (fields p)) in
    let read : front_at limit (first_byte p ∷ (len ++ (fields p ++ rest))) ≡ packet_or_fault (1 + length len + length (fields p)) (body_at (kind_of p) (fields p)) =
    front_is w limit (first_byte p) (kind_of p) len (fields p) rest (kind_again p parts.packet) parts.formed (size_again limit.most p h.1) in
    ap (front_at limit) regrouped ∙ (read ∙ rw (body_again w p parts.packet, count) refl)

-- and its header says how many bytes it takes
pub told_len : (w : Wire) (limit : Bounds) (p : Packet) (s rest : List ℕ) → ReadsWithin limit p s → len_told (header_at limit (s ++ rest)) ≡ Some (length s)
told_len w limit p s rest h =
    let parts = parts_of limit.lenient p s h.0 in
    let len = parts.len in
    let regrouped : s ++ rest ≡ first_byte p ∷ (len ++ (fields p ++ rest)) = ap (λ (t : List ℕ). t ++ rest) parts.bytes ∙ ap (λ (t : List ℕ). first_byte p ∷ t) (append_assoc len (fields p) rest) in
    let count : 1 + length len + length (fields p) ≡ length s = omega (arith, ap length parts.bytes, length-append len (fields p)) in
    let header : header_at limit (first_byte p ∷ (len ++ (fields p ++ rest))) ≡ sized (size_fault limit.most (kind_of p) (length (fields p))) (kind_of p) (length len) (length (fields p)) =
    header_is w limit (first_byte p) (length (fields p)) (kind_of p) len (fields p ++ rest) (kind_again p parts.packet) parts.formed in
    ap (λ (b : List ℕ). len_told (header_at limit b)) regrouped ∙ (ap len_told header ∙ rw (size_again limit.most p h.1) (ap (λ (n : ℕ). Some n) count))

-- a right header says how many bytes its packet takes
pub told_is : (w : Wire) (limit : Bounds) (b : List ℕ) (size : ℕ) → HasHeader limit b size → len_told (header_at limit b) ≡ Some size
told_is w limit b size h =
    ap (λ (bytes : List ℕ). len_told (header_at limit bytes)) h.bytes ∙ (ap len_told (header_is w limit h.first h.n h.kind h.len h.rest h.right h.formed) ∙ rw (h.fits, h.told) refl)

-- ---- A faulty front is read as its fault

first_again : (limit : Bounds) (b : List ℕ) (k : FaultKind) (place : ℕ) → FirstFault b k place → front_at limit b ≡ Err (fault_at k place)
unfolding front_at header_at
first_again limit b k place h = rw (h.bytes, h.fault, h.here) refl

bad_length_again : (w : Wire) (limit : Bounds) (first : ℕ) (rest : List ℕ) (kind : Kind) (k : FaultKind) (place : ℕ) → kind_at first ≡ Ok kind → BadLength limit rest k place → front_at limit (first ∷ rest) ≡ Err (fault_at k place)
unfolding front_at header_at
bad_length_again w limit first rest kind LengthTooLong place right h = rw (right, w.lengths.too_long_again limit.lenient rest h.0, h.1) refl
bad_length_again w limit first rest kind LengthOverlong place right h = rw (right, h.0, w.lengths.overlong_again rest place h.1) refl
bad_length_again w limit first rest kind k place right h = absurd h

size_again_at : (w : Wire) (limit : Bounds) (b : List ℕ) (k : FaultKind) (place : ℕ) → SizeFault limit b k place → front_at limit b ≡ Err (fault_at k place)
unfolding front_at
size_again_at w limit b k place h = rw (h.bytes, header_is w limit h.first h.n h.kind h.len h.rest h.right h.formed, h.fault, h.here) refl

pub faulty_again : (w : Wire) (limit : Bounds) (b : List ℕ) (k : FaultKind) (place : ℕ) → Faulty limit b k place → front_at limit b ≡ Err (fault_at k place)
faulty_again w limit b k place (AtFirst h) = first_again limit b k place h
faulty_again w limit b k place (AtLength h) = rw h.bytes (bad_length_again w limit h.first h.rest h.kind k place h.right h.fault)
faulty_again w limit b k place (AtSize h) = size_again_at w limit b k place h
faulty_again w limit b k place (AtField h) =
    ap (front_at limit) h.bytes ∙ (front_is w limit h.first h.kind h.len h.body h.rest h.right h.formed h.size ∙ rw (h.fault, h.here) refl)

-- ---- If nothing is read, the front is pending

pub pending_at : (w : Wire) (limit : Bounds) (b : List ℕ) → front_at limit b ≡ Ok None → Pending limit b
pending_at w limit b e = record {
  not_whole = λ p first rest h parts.
      let both : Ok None ≡ Ok (Some (p, length first)) = sym e ∙ (ap (front_at limit) parts ∙ whole_again w limit p first rest h) in
      absurd cc;
  not_faulty = λ k place h.
      let both : Ok None ≡ Err (fault_at k place) = sym e ∙ faulty_again w limit b k place h in
      absurd cc;
}
