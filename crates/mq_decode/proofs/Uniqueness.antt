-- Every list of bytes has exactly one reading, and pending bytes are short.
use Rattle.std.proofs.Common.{◌≡◌, ℕ, zero, suc, ◌+◌, ◌<◌, ◌≤◌, Bool, true, false, cond, ltb, List, [], ◌∷◌, ◌++◌, length, take, drop, Option, Some, None, Result, Ok, Err, refl, sym, ap, subst, ◌∙◌, append_assoc, arith, ◌⊎◌, inl, inr}
use Rattle.std.proofs.lemmas.Bool.{ltb-true, ltb-false}
use Rattle.std.proofs.lemmas.List.{length-take, length-drop, take-append-drop, drop_at, take_at}
use Rattle.mq_wire.specs.declared.length_reading.LengthReading.{LengthReading}
use Rattle.mq_wire.specs.declared.length_reading.LengthReading.TheVariants.{Whole, Unfinished, TooLong, Overlong}
use Rattle.mq_wire.specs.Bytes.{AreBytes}
use Rattle.mq_wire.specs.Length.{LengthUnder}
use Rattle.mq_wire.specs.Reading.{read_length}
use Rattle.mq_packet.specs.declared.packet.Packet.{Packet}
use Rattle.mq_decode.specs.declared.fault.FaultKind.{FaultKind}
use Rattle.mq_decode.specs.declared.fault.FaultKind.TheVariants.{OverLimit}
use Rattle.mq_decode.specs.declared.fault.BadField.{BadField}
use Rattle.mq_decode.specs.declared.fault.DecodeFault.{DecodeFault}
use Rattle.mq_decode.specs.declared.header.Header.{Header}
use Rattle.mq_decode.specs.declared.kind.Kind.{Kind}
use Rattle.mq_decode.specs.Kind.{kind_at, fixed_size, wrong_size, size_fault}
use Rattle.mq_decode.specs.Bodies.{body_at}
use Rattle.mq_decode.specs.Inside.Front.{fault_at, sized, header_of, header_after, header_at, packet_or_fault, front_after, front_at}
use Rattle.mq_decode.specs.Limits.{Bounds}
use Rattle.mq_decode.specs.Grammar.{ReadsWithin, Stream, Faulty, Ends, Reading}
use Rattle.mq_decode.specs.Laws.{EachReads, OneReading, PendingIsShort, ReadsAgain}
use Rattle.mq_decode.proofs.FieldLaws.{Wire, AreBytes-drop}
use Rattle.mq_decode.proofs.ListLaws.{chosen}
use Rattle.mq_decode.proofs.FrontLaws.{Read, parts_of, encoded_reads, whole_again, faulty_again}
use Rattle.mq_decode.proofs.FrontFound.{FrontFound, front_found}

-- ---- Pending bytes are short

nothing_after : (end : ℕ) (r : Result Packet BadField) → packet_or_fault end r ≡ Ok None → ⊥
nothing_after end (Ok p) e = absurd cc
nothing_after end (Err bad) e = absurd cc

-- Nothing is read without a header, or if bytes are missing.
after_none : (r : Result (Option Header) DecodeFault) (b : List ℕ) → front_after r b ≡ Ok None → (r ≡ Ok None) ⊎ ((h : Header) × (r ≡ Ok (Some h)) × (length b < h.start + h.size))
after_none (Err fault) b e = absurd cc
after_none (Ok None) b e = inl refl
after_none (Ok (Some h)) b e =
    elim (chosen (ltb (length b) (h.start + h.size)) (Ok None) (packet_or_fault (h.start + h.size) (body_at h.kind (take h.size (drop h.start b)))) (Ok None) e) [
      | inl t ↦ inr (h, refl, ltb-true _ _ t.0)
      | inr t ↦ absurd (nothing_after _ _ t.1)
    ]

abbrev Sized : ℕ → Header → Type 0
Sized limit h = (h.start ≤ 5) × (h.size ≤ limit)

abbrev some_header : Header → Result (Option Header) DecodeFault
some_header h = Ok (Some h)

same_header : (a b : Header) → some_header a ≡ some_header b → a ≡ b
same_header a b e = cc

sized_some : (limit : ℕ) (kind : Kind) (len n : ℕ) (h : Header) → len ≤ 4 → sized (size_fault limit kind n) kind len n ≡ Ok (Some h) → Sized limit h
sized_some limit kind len n h small e = go (ltb limit n) refl e
  where
    fixed : (o : Option FaultKind) → n ≤ limit → sized o kind len n ≡ Ok (Some h) → Sized limit h
    fixed (Some k) le e = absurd cc
    fixed None le e = subst (Sized limit) (same_header (record { kind = kind; start = 1 + len; size = n }) h e) (omega arith, le)

    go : (t : Bool) → ltb limit n ≡ t → sized (cond t (Some OverLimit) (wrong_size (fixed_size kind) n)) kind len n ≡ Ok (Some h) → Sized limit h
    go true is e = absurd cc
    go false is e = fixed (wrong_size (fixed_size kind) n) (ltb-false _ _ is) e

-- a length has at most four bytes
short_length : (lenient : Bool) (n : ℕ) (b : List ℕ) → LengthUnder lenient n b → length b ≤ 4
short_length false n b h = h.1
short_length true n b h = h.1

-- The size that a header states.
header_small : (w : Wire) (limit : Bounds) (rest : List ℕ) (r : Result Kind FaultKind) (h : Header) → AreBytes rest → header_after limit r rest ≡ Ok (Some h) → Sized limit.most h
header_small w limit rest (Err k) h bytes e = absurd cc
header_small w limit rest (Ok kind) h bytes e = go (read_length limit.lenient rest) refl e
  where
    go : (l : LengthReading) → read_length limit.lenient rest ≡ l → header_of limit kind l ≡ Ok (Some h) → Sized limit.most h
    go Unfinished is e = absurd cc
    go TooLong is e = absurd cc
    go (Overlong size) is e = absurd cc
    go (Whole n len) is e =
        let f = w.lengths.found limit.lenient rest n len bytes is in
        sized_some limit.most kind len n h (omega (arith, short_length limit.lenient n (take len rest) f.1, length-take len rest, f.0)) e

header_none : (w : Wire) (limit : Bounds) (rest : List ℕ) (r : Result Kind FaultKind) → AreBytes rest → header_after limit r rest ≡ Ok None → length rest < 4
header_none w limit rest (Err k) bytes e = absurd cc
header_none w limit rest (Ok kind) bytes e = go (read_length limit.lenient rest) refl e
  where
    sized_not : (o : Option FaultKind) (len n : ℕ) → sized o kind len n ≡ Ok None → ⊥
    sized_not None len n e = absurd cc
    sized_not (Some k) len n e = absurd cc

    go : (l : LengthReading) → read_length limit.lenient rest ≡ l → header_of limit kind l ≡ Ok None → length rest < 4
    go Unfinished is e = w.lengths.unfinished limit.lenient rest bytes is
    go TooLong is e = absurd cc
    go (Overlong size) is e = absurd cc
    go (Whole n len) is e = absurd (sized_not (size_fault limit.most kind n) len n e)

none_short : (w : Wire) (limit : Bounds) (b : List ℕ) → AreBytes b → front_at limit b ≡ Ok None → length b ≤ 5 + limit.most
unfolding front_at header_at
none_short w limit [] bytes e = omega arith
none_short w limit (first ∷ rest) bytes e =
    let rest_bytes : AreBytes rest = λ i. bytes (suc i) in
    elim (after_none (header_after limit (kind_at first) rest) (first ∷ rest) e) [
      | inl r ↦ omega (arith, header_none w limit rest (kind_at first) rest_bytes r)
      | inr r ↦
          let s = header_small w limit rest (kind_at first) r.0 rest_bytes r.1 in
          omega (arith, r.2, s.0, s.1)
    ]

pub pending_short : (w : Wire) → PendingIsShort
pending_short w limit b bytes pending = go (front_at limit b) refl (front_found w limit b bytes)
  where
    go : (r : Read) → front_at limit b ≡ r → FrontFound limit b r → length b ≤ 5 + limit.most
    go (Ok None) e f = none_short w limit b bytes e
    go (Ok (Some x)) e f = absurd (pending.not_whole x.0 (take x.1 b) (drop x.1 b) f.1 (sym (take-append-drop x.1 b)))
    go (Err fault) e f = absurd (pending.not_faulty fault.kind fault.place f)

-- ---- one reading

-- A packet that was read, and its end.
abbrev pub packet_at : Packet × ℕ → Read
packet_at x = Ok (Some x)

pub same_packet : (x y : Packet × ℕ) → packet_at x ≡ packet_at y → x ≡ y
same_packet x y e = cc

abbrev faulted : DecodeFault → Read
faulted f = Err f

same_fault : (f g : DecodeFault) → faulted f ≡ faulted g → f ≡ g
same_fault f g e = cc

-- If the front is the encoding of a packet, nothing ends there.
not_ended : (w : Wire) (limit : Bounds) (p : Packet) (s more b : List ℕ) (end : Option DecodeFault) → ReadsWithin limit p s → b ≡ s ++ more → Ends limit b end → ⊥
not_ended w limit p s more b None h e pending = pending.not_whole p s more h e
not_ended w limit p s more b (Some fault) h e bad =
    let both : packet_at (p, length s) ≡ faulted (fault_at fault.kind fault.place) = sym (whole_again w limit p s more h) ∙ (ap (front_at limit) (sym e) ∙ faulty_again w limit b fault.kind fault.place bad) in
    absurd cc

-- bytes end in one way
one_end : (w : Wire) (limit : Bounds) (b : List ℕ) (end stop : Option DecodeFault) → Ends limit b end → Ends limit b stop → end ≡ stop
one_end w limit b None None h k = refl
one_end w limit b None (Some g) h k = absurd (h.not_faulty g.kind g.place k)
one_end w limit b (Some f) None h k = absurd (k.not_faulty f.kind f.place h)
one_end w limit b (Some f) (Some g) h k =
    let both : faulted (fault_at f.kind f.place) ≡ faulted (fault_at g.kind g.place) = sym (faulty_again w limit b f.kind f.place h) ∙ faulty_again w limit b g.kind g.place k in
    ap (λ (x : DecodeFault). Some x) (same_fault f g both)

-- two parts of the same bytes, the first of one length
same_front : (a b x y : List ℕ) → length a ≡ length b → a ++ x ≡ b ++ y → a ≡ b
same_front a b x y len e = sym (take_at a x (length a) refl) ∙ (ap (take (length a)) e ∙ take_at b y (length a) (sym len))

same_back : (a b x y : List ℕ) → length a ≡ length b → a ++ x ≡ b ++ y → x ≡ y
same_back a b x y len e = sym (drop_at a x (length a) refl) ∙ (ap (drop (length a)) e ∙ drop_at b y (length a) (sym len))

one_stream : (w : Wire) (limit : Bounds) (ps qs : List Packet) (f g rest last : List ℕ) (end stop : Option DecodeFault) → Stream limit ps f → Stream limit qs g → f ++ rest ≡ g ++ last
    → Ends limit rest end → Ends limit last stop → (ps ≡ qs) × (rest ≡ last) × (end ≡ stop)
one_stream w limit [] [] f g rest last end stop sf sg e ef eg =
    let same : rest ≡ last = sym (ap (λ (t : List ℕ). t ++ rest) sf) ∙ (e ∙ ap (λ (t : List ℕ). t ++ last) sg) in
    (refl, same, one_end w limit rest end stop ef (subst (λ (t : List ℕ). Ends limit t stop) (sym same) eg))
one_stream w limit [] (q ∷ qs) f g rest last end stop sf sg e ef eg =
    let is : rest ≡ sg.0 ++ (sg.1 ++ last) = sym (ap (λ (t : List ℕ). t ++ rest) sf) ∙ (e ∙ (ap (λ (t : List ℕ). t ++ last) sg.4 ∙ append_assoc sg.0 sg.1 last)) in
    absurd (not_ended w limit q sg.0 (sg.1 ++ last) rest end sg.2 is ef)
one_stream w limit (p ∷ ps) [] f g rest last end stop sf sg e ef eg =
    let is : last ≡ sf.0 ++ (sf.1 ++ rest) = sym (ap (λ (t : List ℕ). t ++ last) sg) ∙ (sym e ∙ (ap (λ (t : List ℕ). t ++ rest) sf.4 ∙ append_assoc sf.0 sf.1 rest)) in
    absurd (not_ended w limit p sf.0 (sf.1 ++ rest) last stop sf.2 is eg)
one_stream w limit (p ∷ ps) (q ∷ qs) f g rest last end stop sf sg e ef eg =
    let regrouped : sf.0 ++ (sf.1 ++ rest) ≡ sg.0 ++ (sg.1 ++ last) = sym (append_assoc sf.0 sf.1 rest) ∙ (sym (ap (λ (t : List ℕ). t ++ rest) sf.4) ∙ (e ∙ (ap (λ (t : List ℕ). t ++ last) sg.4 ∙ append_assoc sg.0 sg.1 last))) in
    let both : packet_at (p, length sf.0) ≡ packet_at (q, length sg.0) = sym (whole_again w limit p sf.0 (sf.1 ++ rest) sf.2) ∙ (ap (front_at limit) regrouped ∙ whole_again w limit q sg.0 (sg.1 ++ last) sg.2) in
    let same = same_packet (p, length sf.0) (q, length sg.0) both in
    let packet_is : p ≡ q = ap (λ (x : Packet × ℕ). x.0) same in
    let len : length sf.0 ≡ length sg.0 = ap (λ (x : Packet × ℕ). x.1) same in
    let others = one_stream w limit ps qs sf.1 sg.1 rest last end stop sf.3 sg.3 (same_back sf.0 sg.0 (sf.1 ++ rest) (sg.1 ++ last) len regrouped) ef eg in
    (list_is p q ps qs packet_is others.0, others.1, others.2)
  where
    list_is : (p q : Packet) (ps qs : List Packet) → p ≡ q → ps ≡ qs → p ∷ ps ≡ q ∷ qs
    list_is p q ps qs e f = rw (e, f) refl

pub one_way : (w : Wire) → OneReading
one_way w limit b ps qs rest last end stop h k = one_stream w limit ps qs h.front k.front rest last end stop h.stream k.stream (sym h.parts ∙ k.parts) h.ends k.ends

-- ---- Encodings

one_front : (w : Wire) (limit : Bounds) (p q : Packet) (s t rest more : List ℕ) → ReadsWithin limit p s → ReadsWithin limit q t → s ++ rest ≡ t ++ more → (p ≡ q) × (rest ≡ more)
one_front w limit p q s t rest more h k e =
    let both : packet_at (p, length s) ≡ packet_at (q, length t) = sym (whole_again w limit p s rest h) ∙ (ap (front_at limit) e ∙ whole_again w limit q t more k) in
    let same = same_packet (p, length s) (q, length t) both in
    let len : length s ≡ length t = ap (λ (x : Packet × ℕ). x.1) same in
    (ap (λ (x : Packet × ℕ). x.0) same, same_back s t rest more len e)

some_bytes : (limit : Bounds) (p : Packet) (s : List ℕ) → ReadsWithin limit p s → 0 < length s
some_bytes limit p s h = omega (arith, ap length (parts_of limit.lenient p s h.0).bytes)

not_faulty_front : (w : Wire) (limit : Bounds) (p : Packet) (s rest : List ℕ) (k : FaultKind) (place : ℕ) → ReadsWithin limit p s → Faulty limit (s ++ rest) k place → ⊥
not_faulty_front w limit p s rest k place h bad = not_ended w limit p s rest (s ++ rest) (Some (fault_at k place)) h refl bad

pub again_laws : (w : Wire) → ReadsAgain
again_laws w = record { one = one_front w; some = some_bytes; right = not_faulty_front w; encoded = λ limits p s h le. (encoded_reads w limits.lenient p s h, le) }

-- ---- each list of bytes has a reading

abbrev HasReading : Bounds → List ℕ → Type 0
HasReading limit b = (ps : List Packet) × (rest : List ℕ) × (end : Option DecodeFault) × Reading limit b ps rest end

-- a packet, and then the rest
reading_more : (limit : Bounds) (p : Packet) (n : ℕ) (b : List ℕ) → ReadsWithin limit p (take n b) → HasReading limit (drop n b) → HasReading limit b
reading_more limit p n b h k = (
  p ∷ k.0,
  k.1,
  k.2,
  record {
    front = take n b ++ k.3.front;
    stream = (take n b, k.3.front, h, k.3.stream, refl);
    parts = sym (take-append-drop n b) ∙ (ap (λ (t : List ℕ). take n b ++ t) k.3.parts ∙ sym (append_assoc (take n b) k.3.front k.1));
    ends = k.3.ends;
  },
)

reading_step : (limit : Bounds) (b : List ℕ) (r : Read) → FrontFound limit b r → ((n : ℕ) → 0 < n → n ≤ length b → HasReading limit (drop n b)) → HasReading limit b
reading_step limit b (Ok None) f more = ([], b, None, record { front = []; stream = refl; parts = refl; ends = f })
reading_step limit b (Err fault) f more = ([], b, Some fault, record { front = []; stream = refl; parts = refl; ends = f })
reading_step limit b (Ok (Some x)) f more =
    let some : 0 < length (take x.1 b) = some_bytes limit x.0 (take x.1 b) f.1 in
    reading_more limit x.0 x.1 b f.1 (more x.1 (omega (arith, some, length-take x.1 b)) f.0)

reading_of : (w : Wire) (limit : Bounds) (fuel : ℕ) (b : List ℕ) → AreBytes b → length b ≤ fuel → HasReading limit b
reading_of w limit zero b bytes le = reading_step limit b (front_at limit b) (front_found w limit b bytes) (λ n some few. absurd (omega arith))
reading_of w limit (suc fuel) b bytes le =
    reading_step limit b (front_at limit b) (front_found w limit b bytes)
    (λ n some few. reading_of w limit fuel (drop n b) (AreBytes-drop n b bytes) (omega (arith, length-drop n b)))

pub each_reads : (w : Wire) → EachReads
each_reads w limit b bytes = reading_of w limit (length b) b bytes (omega arith)
