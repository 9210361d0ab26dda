-- How many bytes a packet that isn't whole still wants.
use Rattle.std.proofs.Common.{◌≡◌, ℕ, suc, ◌+◌, ◌<◌, ◌≤◌, true, false, ltb, subst, List, [], ◌∷◌, ◌++◌, length, take, drop, Option, Some, None, Result, Ok, Err, refl, sym, ap, ◌∙◌, append_assoc, arith, inl, inr}
use Rattle.std.proofs.lemmas.Bool.{cases_lt, le-ltb, lt-ltb}
use Rattle.std.proofs.lemmas.List.{append-nil, nil_from_length, length-append, length-take, take-append-drop}
use Rattle.mq_wire.specs.declared.length_reading.LengthReading.{LengthReading}
use Rattle.mq_wire.specs.declared.length_reading.LengthReading.TheVariants.{Whole, Unfinished, TooLong, Overlong}
use Rattle.mq_wire.specs.Bytes.{AreBytes}
use Rattle.mq_wire.specs.Reading.{read_length}
use Rattle.mq_packet.specs.declared.packet.Packet.{Packet}
use Rattle.mq_decode.specs.declared.fault.FaultKind.{FaultKind}
use Rattle.mq_decode.specs.declared.fault.BadField.{BadField}
use Rattle.mq_decode.specs.declared.fault.DecodeFault.{DecodeFault}
use Rattle.mq_decode.specs.declared.header.Header.{Header}
use Rattle.mq_decode.specs.declared.kind.Kind.{Kind}
use Rattle.mq_decode.specs.Kind.{kind_at}
use Rattle.mq_decode.specs.Bodies.{body_at}
use Rattle.mq_decode.specs.Inside.Front.{end_told, header_of, header_after, header_at, packet_or_fault, front_after, front_at}
use Rattle.mq_decode.specs.Limits.{Bounds}
use Rattle.mq_decode.specs.Grammar.{Pending, Wants}
use Rattle.mq_decode.proofs.FieldLaws.{Wire}
use Rattle.mq_decode.proofs.FrontLaws.{Read, pending_at}
use Rattle.mq_decode.proofs.FrontFound.{FrontFound, front_found}

empty : (rest : List ℕ) → length rest ≤ 0 → rest ≡ []
empty rest le = nil_from_length rest (omega arith)

-- at least one byte is missing
pub wants_one : (limit : Bounds) (b : List ℕ) → Wants limit b 1
wants_one limit b pending more few = subst (Pending limit) (sym (ap (λ (t : List ℕ). b ++ t) (empty more (omega arith)) ∙ append-nil b)) pending

-- a header that is whole stays, whatever follows
header_more : (w : Wire) (limit : Bounds) (b more : List ℕ) (h : Header) → AreBytes b → header_at limit b ≡ Ok (Some h) → header_at limit (b ++ more) ≡ Ok (Some h)
unfolding header_at
header_more w limit [] more h bytes e = absurd cc
header_more w limit (first ∷ rest) more h bytes e = kinds (kind_at first) refl e
  where
    lengths : (kind : Kind) (l : LengthReading) → read_length limit.lenient rest ≡ l → header_of limit kind l ≡ Ok (Some h) → header_of limit kind (read_length limit.lenient (rest ++ more)) ≡ Ok (Some h)
    lengths kind Unfinished is e = absurd cc
    lengths kind TooLong is e = absurd cc
    lengths kind (Overlong size) is e = absurd cc
    lengths kind (Whole n size) is e =
        let f = w.lengths.found limit.lenient rest n size (λ i. bytes (suc i)) is in
        let split : rest ++ more ≡ take size rest ++ (drop size rest ++ more) = ap (λ (t : List ℕ). t ++ more) (sym (take-append-drop size rest)) ∙ append_assoc (take size rest) (drop size rest) more in
        let size_is : length (take size rest) ≡ size = omega (arith, length-take size rest, f.0) in
        let again : read_length limit.lenient (rest ++ more) ≡ Whole n size = ap (read_length limit.lenient) split ∙ (w.lengths.again limit.lenient n (take size rest) (drop size rest ++ more) f.1 ∙ ap (λ (k : ℕ). Whole n k) size_is) in
        rw again e

    kinds : (r : Result Kind FaultKind) → kind_at first ≡ r → header_after limit r rest ≡ Ok (Some h) → header_after limit (kind_at first) (rest ++ more) ≡ Ok (Some h)
    kinds (Err k) is e = absurd cc
    kinds (Ok kind) is e = rw is (lengths kind (read_length limit.lenient rest) refl e)

-- With a header, it is missing the bytes that the header states.
wants_rest : (w : Wire) (limit : Bounds) (b : List ℕ) (h : Header) (n : ℕ) → AreBytes b → header_at limit b ≡ Ok (Some h) → length b + n ≤ h.start + h.size → Wants limit b n
unfolding front_at
wants_rest w limit b h n bytes e within pending more few =
    let header : header_at limit (b ++ more) ≡ Ok (Some h) = header_more w limit b more h bytes e in
    let short : ltb (length (b ++ more)) (h.start + h.size) ≡ true = lt-ltb _ _ (omega (arith, length-append b more)) in
    pending_at w limit (b ++ more) (ap (λ (r : Result (Option Header) DecodeFault). front_after r (b ++ more)) header ∙ rw short refl)

-- The maximum of one and the number that the header states.
pub wants_most : (w : Wire) (limit : Bounds) (b : List ℕ) (h : Header) (n : ℕ) → AreBytes b → header_at limit b ≡ Ok (Some h) → (length b < h.start + h.size → length b + n ≤ h.start + h.size) → (h.start + h.size ≤ length b → n ≤ 1) → Wants limit b n
wants_most w limit b h n bytes e more one =
    elim (cases_lt (length b) (h.start + h.size)) [
      | inl lt ↦ wants_rest w limit b h n bytes e (more lt)
      | inr le ↦ λ pending m few. wants_one limit b pending m (omega (arith, one le, few))
    ]

-- with the header and as many bytes as it says nothing is pending
pub pending_none : (w : Wire) (limit : Bounds) (b : List ℕ) → AreBytes b → Pending limit b → front_at limit b ≡ Ok None
pending_none w limit b bytes pending = go (front_at limit b) refl (front_found w limit b bytes)
  where
    go : (r : Read) → front_at limit b ≡ r → FrontFound limit b r → front_at limit b ≡ Ok None
    go (Ok None) e f = e
    go (Ok (Some x)) e f = absurd (pending.not_whole x.0 (take x.1 b) (drop x.1 b) f.1 (sym (take-append-drop x.1 b)))
    go (Err fault) e f = absurd (pending.not_faulty fault.kind fault.place f)

never_none : (end : ℕ) (r : Result Packet BadField) → packet_or_fault end r ≡ Ok None → ⊥
never_none end (Ok p) e = absurd cc
never_none end (Err bad) e = absurd cc

pub complete_not : (w : Wire) (limit : Bounds) (b : List ℕ) (h : Header) → AreBytes b → header_at limit b ≡ Ok (Some h) → h.start + h.size ≤ length b → Pending limit b → ⊥
unfolding front_at
complete_not w limit b h bytes e long pending =
    let read : front_after (Ok (Some h)) b ≡ Ok None = ap (λ (r : Result (Option Header) DecodeFault). front_after r b) (sym e) ∙ pending_none w limit b bytes pending in
    let enough : ltb (length b) (h.start + h.size) ≡ false = le-ltb _ _ long in
    never_none (h.start + h.size) (body_at h.kind (take h.size (drop h.start b))) (rw enough at read)

-- ---- The end of the packet, as its header states it

told_some : (r : Result (Option Header) DecodeFault) (end : ℕ) → end_told r ≡ Ok (Some end) → (h : Header) × (r ≡ Ok (Some h)) × (h.start + h.size ≡ end)
told_some (Err fault) end e = absurd cc
told_some (Ok None) end e = absurd cc
told_some (Ok (Some h)) end e = (h, refl, cc)

told_none : (r : Result (Option Header) DecodeFault) → end_told r ≡ Ok None → r ≡ Ok None
told_none (Err fault) e = absurd cc
told_none (Ok None) e = refl
told_none (Ok (Some h)) e = absurd cc

told_fault : (r : Result (Option Header) DecodeFault) (fault : DecodeFault) → end_told r ≡ Err fault → r ≡ Err fault
told_fault (Err fault) other e = cc
told_fault (Ok None) fault e = absurd cc
told_fault (Ok (Some h)) fault e = absurd cc

-- less than that is pending
pub short_pending : (w : Wire) (limit : Bounds) (b : List ℕ) (end : ℕ) → end_told (header_at limit b) ≡ Ok (Some end) → length b < end → Pending limit b
unfolding front_at
short_pending w limit b end e few =
    let told = told_some (header_at limit b) end e in
    let short : ltb (length b) (told.0.start + told.0.size) ≡ true = lt-ltb _ _ (omega (arith, told.2, few)) in
    pending_at w limit b (ap (λ (r : Result (Option Header) DecodeFault). front_after r b) told.1 ∙ rw short refl)

-- It is missing the rest.
pub short_wants : (w : Wire) (limit : Bounds) (b : List ℕ) (end n : ℕ) → AreBytes b → end_told (header_at limit b) ≡ Ok (Some end) → length b + n ≤ end → Wants limit b n
short_wants w limit b end n bytes e within =
    let told = told_some (header_at limit b) end e in
    wants_rest w limit b told.0 n bytes told.1 (omega (arith, told.2, within))

-- Not that many.
pub long_not : (w : Wire) (limit : Bounds) (b : List ℕ) (end : ℕ) → AreBytes b → end_told (header_at limit b) ≡ Ok (Some end) → end ≤ length b → Pending limit b → ⊥
long_not w limit b end bytes e long pending =
    let told = told_some (header_at limit b) end e in
    complete_not w limit b told.0 bytes told.1 (omega (arith, told.2, long)) pending

-- a header that is not whole is pending
pub no_end_pending : (w : Wire) (limit : Bounds) (b : List ℕ) → end_told (header_at limit b) ≡ Ok None → Pending limit b
unfolding front_at
no_end_pending w limit b e = pending_at w limit b (ap (λ (r : Result (Option Header) DecodeFault). front_after r b) (told_none (header_at limit b) e))

-- a fault is not
pub bad_end_not : (w : Wire) (limit : Bounds) (b : List ℕ) (fault : DecodeFault) → AreBytes b → end_told (header_at limit b) ≡ Err fault → Pending limit b → ⊥
unfolding front_at
bad_end_not w limit b fault bytes e pending =
    let read : front_at limit b ≡ Err fault = ap (λ (r : Result (Option Header) DecodeFault). front_after r b) (told_fault (header_at limit b) fault e) in
    let none : front_at limit b ≡ Ok None = pending_none w limit b bytes pending in
    let both : Ok None ≡ Err fault = sym none ∙ read in
    absurd cc
