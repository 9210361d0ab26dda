-- Streams: one after another, cut anywhere, and read in one way.
use Rattle.std.proofs.Common.{◌≡◌, ℕ, ◌+◌, ◌-◌, ◌<◌, ◌≤◌, Bool, true, eqb, List, [], ◌∷◌, ◌++◌, length, take, drop, get_or, Option, Some, None, Ok, Err, refl, sym, ap, subst, ◌∙◌, append_assoc, arith, inl, inr}
use Rattle.std.proofs.lemmas.Bool.{cases_lt, eqb-true}
use Rattle.std.proofs.lemmas.List.{nil_from_length, append-nil, length-append, length-take, length-drop, take-append-drop, take-append-le, take-take, drop-take, take_at, take_more, take_all}
use Rattle.std.proofs.lemmas.List.Concat.{flat_map-append}
use Rattle.std.specs.List.{flat_map}
use Rattle.std.specs.Prelude.{IfNone, IfSome, OnOk, Result}
use Rattle.bytes.proofs.Ranges.{take-append_past}
use Rattle.mq_packet.specs.declared.packet.Packet.{Packet}
use Rattle.mq_decode.specs.declared.fault.FaultKind.{FaultKind}
use Rattle.mq_decode.specs.declared.fault.FaultKind.TheVariants.{LengthTooLong, LengthOverlong}
use Rattle.mq_decode.specs.declared.fault.DecodeFault.{DecodeFault}
use Rattle.mq_decode.specs.declared.fault.DecodeError.{DecodeError}
use Rattle.mq_decode.specs.declared.fault.DecodeError.TheVariants as errors
use Rattle.mq_decode.specs.Limits.{Bounds}
use Rattle.mq_decode.specs.Grammar.{ReadsWithin, Stream, BadLength, Faulty, AtFirst, AtLength, AtSize, AtField, Pending, Reading, Goes, Stops, IsFront, Wants}
use Rattle.mq_decode.specs.Inside.Grammar.{IsAlone}
use Rattle.mq_decode.specs.Laws.{ReadsOn}
use Rattle.mq_decode.proofs.FrontLaws.{parts_of}

-- ---- one stream after another

pub stream_join : (limit : Bounds) (ps qs : List Packet) (a b : List ℕ) → Stream limit ps a → Stream limit qs b → Stream limit (ps ++ qs) (a ++ b)
stream_join limit [] qs a b h k = subst (Stream limit qs) (sym (ap (λ (t : List ℕ). t ++ b) h)) k
stream_join limit (p ∷ ps) qs a b h k = (h.0, h.1 ++ b, h.2, stream_join limit ps qs h.1 b h.3 k, ap (λ (t : List ℕ). t ++ b) h.4 ∙ append_assoc h.0 h.1 b)

pub stream_one : (limit : Bounds) (p : Packet) (s : List ℕ) → ReadsWithin limit p s → Stream limit (p ∷ []) s
stream_one limit p s h = (s, [], h, refl, sym (append-nil s))

-- ---- The bytes behind a fault make no difference

bad_length_more : (limit : Bounds) (rest more : List ℕ) (k : FaultKind) (place : ℕ) → BadLength limit rest k place → BadLength limit (rest ++ more) k place
bad_length_more limit rest more LengthTooLong place h =
    (record { digits = h.0.digits; rest = h.0.rest ++ more; parts = ap (λ (t : List ℕ). t ++ more) h.0.parts ∙ append_assoc h.0.digits h.0.rest more; following = h.0.following; four = h.0.four }, h.1)
bad_length_more limit rest more LengthOverlong place h =
    (h.0, record { digits = h.1.digits; rest = h.1.rest ++ more; parts = ap (λ (t : List ℕ). t ++ more) h.1.parts ∙ append_assoc h.1.digits (0 ∷ h.1.rest) more; following = h.1.following; some = h.1.some; three = h.1.three; counted = h.1.counted })
bad_length_more limit rest more k place h = absurd h

pub faulty_more : (limit : Bounds) (b more : List ℕ) (k : FaultKind) (place : ℕ) → Faulty limit b k place → Faulty limit (b ++ more) k place
faulty_more limit b more k place (AtFirst h) = AtFirst (record { first = h.first; rest = h.rest ++ more; bytes = ap (λ (t : List ℕ). t ++ more) h.bytes; fault = h.fault; here = h.here })
faulty_more limit b more k place (AtLength h) = AtLength (record { first = h.first; rest = h.rest ++ more; bytes = ap (λ (t : List ℕ). t ++ more) h.bytes; kind = h.kind; right = h.right; fault = bad_length_more limit h.rest more k place h.fault })
faulty_more limit b more k place (AtSize h) =
    AtSize (record { first = h.first; n = h.n; len = h.len; rest = h.rest ++ more; bytes = ap (λ (t : List ℕ). t ++ more) h.bytes ∙ ap (λ (t : List ℕ). h.first ∷ t) (append_assoc h.len h.rest more); kind = h.kind; right = h.right; formed = h.formed; fault = h.fault; here = h.here })
faulty_more limit b more k place (AtField h) =
    AtField (record {
      first = h.first;
      len = h.len;
      body = h.body;
      rest = h.rest ++ more;
      bytes = ap (λ (t : List ℕ). t ++ more) h.bytes ∙ ap (λ (t : List ℕ). h.first ∷ t) (append_assoc h.len (h.body ++ h.rest) more ∙ ap (λ (t : List ℕ). h.len ++ t) (append_assoc h.body h.rest more));
      kind = h.kind;
      right = h.right;
      formed = h.formed;
      size = h.size;
      left = h.left;
      fault = h.fault;
      here = h.here;
    })

pub stops_more : (limit : Bounds) (b more : List ℕ) (old new : List Packet) (e : DecodeError) → Stops limit b old new e → Stops limit (b ++ more) old new e
stops_more limit b more old new (errors.Fault fault) h = (
  h.0,
  h.1 ++ more,
  h.2,
  record {
    front = h.3.front;
    stream = h.3.stream;
    parts = ap (λ (t : List ℕ). t ++ more) h.3.parts ∙ append_assoc h.3.front h.1 more;
    ends = faulty_more limit h.1 more fault.kind fault.place h.3.ends;
  },
)
stops_more limit b more old new errors.Memory h = (
  h.0,
  h.1,
  record {
    front = h.2.front;
    stream = h.2.stream;
    rest = h.2.rest ++ more;
    parts = ap (λ (t : List ℕ). t ++ more) h.2.parts ∙ append_assoc h.2.front h.2.rest more;
    left = omega (arith, length-append h.2.rest more, h.2.left);
  },
)

-- ---- one piece after another

-- The packets read, then those behind the rest.
reading_then : (limit : Bounds) (b more : List ℕ) (ps qs : List Packet) (rest last : List ℕ) (end : Option DecodeFault)
    → Reading limit b ps rest None → Reading limit (rest ++ more) qs last end → Reading limit (b ++ more) (ps ++ qs) last end
reading_then limit b more ps qs rest last end h k = record {
  front = h.front ++ k.front;
  stream = stream_join limit ps qs h.front k.front h.stream k.stream;
  parts = ap (λ (t : List ℕ). t ++ more) h.parts ∙ (append_assoc h.front rest more ∙ (ap (λ (t : List ℕ). h.front ++ t) k.parts ∙ sym (append_assoc h.front k.front last)));
  ends = k.ends;
}

pub goes_then : (limit : Bounds) (b more : List ℕ) (old mid new : List Packet) (rest last : List ℕ) → Goes limit b old mid rest → Goes limit (rest ++ more) mid new last → Goes limit (b ++ more) old new last
goes_then limit b more old mid new rest last h k =
    (h.0 ++ k.0, k.1 ∙ (ap (λ (t : List Packet). t ++ k.0) h.1 ∙ append_assoc old h.0 k.0), reading_then limit b more h.0 k.0 rest last None h.2 k.2)

pub stops_then : (limit : Bounds) (b more : List ℕ) (old mid new : List Packet) (rest : List ℕ) (e : DecodeError) → Goes limit b old mid rest → Stops limit (rest ++ more) mid new e → Stops limit (b ++ more) old new e
stops_then limit b more old mid new rest (errors.Fault fault) h k =
    (h.0 ++ k.0, k.1, k.2 ∙ (ap (λ (t : List Packet). t ++ k.0) h.1 ∙ append_assoc old h.0 k.0), reading_then limit b more h.0 k.0 rest k.1 (Some fault) h.2 k.3)
stops_then limit b more old mid new rest errors.Memory h k = (
  h.0 ++ k.0,
  k.1 ∙ (ap (λ (t : List Packet). t ++ k.0) h.1 ∙ append_assoc old h.0 k.0),
  record {
    front = h.2.front ++ k.2.front;
    stream = stream_join limit h.0 k.0 h.2.front k.2.front h.2.stream k.2.stream;
    rest = k.2.rest;
    parts = ap (λ (t : List ℕ). t ++ more) h.2.parts ∙ (append_assoc h.2.front rest more ∙ (ap (λ (t : List ℕ). h.2.front ++ t) k.2.parts ∙ sym (append_assoc h.2.front k.2.front k.2.rest)));
    left = k.2.left;
  },
)

-- No packet was read: the held bytes are pending.
pub goes_none : (limit : Bounds) (held : List ℕ) (old : List Packet) → Pending limit held → Goes limit (held ++ []) old old held
goes_none limit held old h = ([], sym (append-nil old), record { front = []; stream = refl; parts = append-nil held; ends = h })

-- ---- packets from the front of bytes

-- The packets taken so far, from a prefix of the bytes.
pub record Taken (limit : Bounds) (bytes : List ℕ) (taken : ℕ) (old new : List Packet) : Type 0 where
  pub within : taken ≤ length bytes
  pub packets : List Packet
  pub appended : new ≡ old ++ packets
  pub stream : Stream limit packets (take taken bytes)

pub taken_none : (limit : Bounds) (bytes : List ℕ) (old : List Packet) → Taken limit bytes 0 old old
taken_none limit bytes old = record { within = omega arith; packets = []; appended = sym (append-nil old); stream = refl }

take-more : (n m : ℕ) (bytes : List ℕ) → take (n + m) bytes ≡ take n bytes ++ take m (drop n bytes)
take-more n m bytes = sym (take-append-drop n (take (n + m) bytes)) ∙ rw (take-take n (n + m) bytes (omega arith), drop-take n m bytes) refl

pub taken_more : (limit : Bounds) (bytes : List ℕ) (taken size : ℕ) (p : Packet) (old new newer : List Packet) → Taken limit bytes taken old new → newer ≡ new ++ p ∷ []
    → IsFront limit (drop taken bytes) (Ok (Some (p, size))) → Taken limit bytes (taken + size) old newer
taken_more limit bytes taken size p old new newer h e front = record {
  within = omega (arith, h.within, front.0, length-drop taken bytes);
  packets = h.packets ++ p ∷ [];
  appended = e ∙ (ap (λ (t : List Packet). t ++ p ∷ []) h.appended ∙ append_assoc old h.packets (p ∷ []));
  stream = subst (Stream limit (h.packets ++ p ∷ [])) (sym (take-more taken size bytes)) (stream_join limit h.packets (p ∷ []) (take taken bytes) (take size (drop taken bytes)) h.stream (stream_one limit p (take size (drop taken bytes)) front.1));
}

pub taken_goes : (limit : Bounds) (bytes : List ℕ) (taken : ℕ) (old new : List Packet) → Taken limit bytes taken old new → Pending limit (drop taken bytes) → Goes limit bytes old new (drop taken bytes)
taken_goes limit bytes taken old new h pending = (h.packets, h.appended, record { front = take taken bytes; stream = h.stream; parts = sym (take-append-drop taken bytes); ends = pending })

pub taken_stops : (limit : Bounds) (bytes : List ℕ) (taken : ℕ) (old new : List Packet) (e : DecodeError) → Taken limit bytes taken old new → IsFront limit (drop taken bytes) (Err e) → Stops limit bytes old new e
taken_stops limit bytes taken old new (errors.Fault fault) h front = (h.packets, drop taken bytes, h.appended, record { front = take taken bytes; stream = h.stream; parts = sym (take-append-drop taken bytes); ends = front })
taken_stops limit bytes taken old new errors.Memory h front = (h.packets, h.appended, record { front = take taken bytes; stream = h.stream; rest = drop taken bytes; parts = sym (take-append-drop taken bytes); left = front })

-- ---- Pieces that complete the held packet

-- The bytes of the piece so far, and the next ones.
pub next_bytes : (held piece : List ℕ) (used n : ℕ) → (held ++ take used piece) ++ take n (drop used piece) ≡ held ++ take (used + n) piece
next_bytes held piece used n = append_assoc held (take used piece) (take n (drop used piece)) ∙ ap (λ (t : List ℕ). held ++ t) (sym (take-more used n piece))

all_bytes : (held piece : List ℕ) (used : ℕ) → (held ++ take used piece) ++ drop used piece ≡ held ++ piece
all_bytes held piece used = append_assoc held (take used piece) (drop used piece) ∙ ap (λ (t : List ℕ). held ++ t) (take-append-drop used piece)

pub filled_all : (limit : Bounds) (held piece now : List ℕ) (used : ℕ) (old mid new : List Packet) (rest : List ℕ) → now ≡ []
    → Goes limit (held ++ take used piece) old mid now → Goes limit (drop used piece) mid new rest → Goes limit (held ++ piece) old new rest
filled_all limit held piece now used old mid new rest e h k =
    subst (λ (b : List ℕ). Goes limit b old new rest) (all_bytes held piece used)
    (goes_then limit (held ++ take used piece) (drop used piece) old mid new now rest h (subst (λ (t : List ℕ). Goes limit (t ++ drop used piece) mid new rest) (sym e) k))

pub filled_stops_all : (limit : Bounds) (held piece now : List ℕ) (used : ℕ) (old mid new : List Packet) (e : DecodeError) → now ≡ []
    → Goes limit (held ++ take used piece) old mid now → Stops limit (drop used piece) mid new e → Stops limit (held ++ piece) old new e
filled_stops_all limit held piece now used old mid new e now_is h k =
    subst (λ (b : List ℕ). Stops limit b old new e) (all_bytes held piece used)
    (stops_then limit (held ++ take used piece) (drop used piece) old mid new now e h (subst (λ (t : List ℕ). Stops limit (t ++ drop used piece) mid new e) (sym now_is) k))

-- An allocation failed before the rest was held.
pub left_memory : (limit : Bounds) (bytes : List ℕ) (n : ℕ) (old mid : List Packet) (left : List ℕ) (e : DecodeError) → e ≡ errors.Memory → 0 < length left → Goes limit bytes old mid left → Stops limit bytes old mid e
left_memory limit bytes n old mid left e is some h =
    rw is (h.0, h.1, record { front = h.2.front; stream = h.2.stream; rest = left; parts = h.2.parts; left = some })

pub nil_left : (b : Bool) (xs : List ℕ) → b ≡ eqb (length xs) 0 → b ≡ true → xs ≡ []
nil_left b xs e t = nil_from_length xs (eqb-true (length xs) 0 (sym e ∙ t))

-- the same, of the same bytes with the same rest
pub rest_goes : (limit : Bounds) (a b : List ℕ) (old new : List Packet) (rest last : List ℕ) → a ≡ b → rest ≡ last → Goes limit a old new rest → Goes limit b old new last
rest_goes limit a b old new rest last e f h = subst (λ (t : List ℕ). Goes limit t old new last) e (subst (λ (t : List ℕ). Goes limit a old new t) f h)

-- ---- pieces

parts : {X : Type 0} (f : X → List ℕ) (xs : List X) (i : ℕ) (d : X) → i < length xs → flat_map f (take (i + 1) xs) ≡ flat_map f (take i xs) ++ f (get_or xs i d)
parts f xs i d lt =
    ap (flat_map f) (take_more xs i d lt) ∙ (flat_map-append f (take i xs) (get_or xs i d ∷ []) ∙ ap (λ (t : List ℕ). flat_map f (take i xs) ++ t) (append-nil (f (get_or xs i d))))

pub pieces_more : {X : Type 0} (f : X → List ℕ) (xs : List X) (i : ℕ) (d : X) (limit limits : Bounds) (old mid new : List Packet) (held last : List ℕ) → i < length xs → limit ≡ limits
    → Goes limits (flat_map f (take i xs)) old mid held → Goes limit (held ++ f (get_or xs i d)) mid new last → Goes limits (flat_map f (take (i + 1) xs)) old new last
pieces_more f xs i d limit limits old mid new held last lt same h k =
    subst (λ (b : List ℕ). Goes limits b old new last) (sym (parts f xs i d lt))
    (goes_then limits (flat_map f (take i xs)) (f (get_or xs i d)) old mid new held last h (subst (λ (l : Bounds). Goes l (held ++ f (get_or xs i d)) mid new last) same k))

pub pieces_stop : {X : Type 0} (f : X → List ℕ) (xs : List X) (i : ℕ) (d : X) (limit limits : Bounds) (old mid new : List Packet) (held : List ℕ) (e : DecodeError) → i < length xs → limit ≡ limits
    → Goes limits (flat_map f (take i xs)) old mid held → Stops limit (held ++ f (get_or xs i d)) mid new e → Stops limits (flat_map f xs) old new e
pieces_stop f xs i d limit limits old mid new held e lt same h k =
    let x = f (get_or xs i d) in
    let stopped = stops_then limits (flat_map f (take i xs)) x old mid new held e h (subst (λ (l : Bounds). Stops l (held ++ x) mid new e) same k) in
    let more = stops_more limits (flat_map f (take i xs) ++ x) (flat_map f (drop (i + 1) xs)) old new e stopped in
    let whole : (flat_map f (take i xs) ++ x) ++ flat_map f (drop (i + 1) xs) ≡ flat_map f xs =
    ap (λ (t : List ℕ). t ++ flat_map f (drop (i + 1) xs)) (sym (parts f xs i d lt)) ∙ (sym (flat_map-append f (take (i + 1) xs) (drop (i + 1) xs)) ∙ ap (flat_map f) (take-append-drop (i + 1) xs)) in
    subst (λ (b : List ℕ). Stops limits b old new e) whole more

-- ---- the packet that is held alone

pub pending_nil : (limit : Bounds) → Pending limit []
pending_nil limit = record { not_whole = λ p first rest h e. no_bytes p first rest h e; not_faulty = no_fault }
  where
    no_bytes : (p : Packet) (first rest : List ℕ) → ReadsWithin limit p first → [] ≡ first ++ rest → ⊥
    no_bytes p first rest h e = absurd (omega (arith, ap length (parts_of limit.lenient p first h.0).bytes, ap length e, length-append first rest))

    no_fault : (k : FaultKind) (place : ℕ) → Faulty limit [] k place → ⊥
    no_fault k place (AtFirst h) = let e : [] ≡ h.first ∷ h.rest = h.bytes in absurd cc
    no_fault k place (AtLength h) = let e : [] ≡ h.first ∷ h.rest = h.bytes in absurd cc
    no_fault k place (AtSize h) = let e : [] ≡ h.first ∷ (h.len ++ h.rest) = h.bytes in absurd cc
    no_fault k place (AtField h) = let e : [] ≡ h.first ∷ (h.len ++ (h.body ++ h.rest)) = h.bytes in absurd cc

pub front_stops : (limit : Bounds) (b : List ℕ) (old : List Packet) (e : DecodeError) → IsFront limit b (Err e) → Stops limit b old old e
front_stops limit b old e h = taken_stops limit b 0 old old e (taken_none limit b old) h

-- A fault or a failed allocation at the front of more bytes.
pub front_more : (limit : Bounds) (b more : List ℕ) (e : DecodeError) → IsFront limit b (Err e) → IsFront limit (b ++ more) (Err e)
front_more limit b more (errors.Fault fault) h = faulty_more limit b more fault.kind fault.place h
front_more limit b more errors.Memory h = omega (arith, length-append b more, h)

-- At the front of the held bytes and a piece, of which a prefix was appended to them.
pub front_piece : (limit : Bounds) (held piece now next : List ℕ) (used n : ℕ) (e : DecodeError) → next ≡ now ++ take n (drop used piece) → now ≡ held ++ take used piece
    → IsFront limit next (Err e) → IsFront limit (held ++ piece) (Err e)
front_piece limit held piece now next used n e next_is now_is h =
    let all : next ≡ held ++ take (used + n) piece = next_is ∙ (ap (λ (t : List ℕ). t ++ take n (drop used piece)) now_is ∙ next_bytes held piece used n) in
    let more = front_more limit (held ++ take (used + n) piece) (drop (used + n) piece) e (subst (λ (b : List ℕ). IsFront limit b (Err e)) all h) in
    subst (λ (b : List ℕ). IsFront limit b (Err e)) (all_bytes held piece (used + n)) more

-- one packet, and nothing after it
pub one_goes : (limit : Bounds) (b : List ℕ) (p : Packet) (old new : List Packet) (rest : List ℕ) → ReadsWithin limit p b → new ≡ old ++ p ∷ [] → rest ≡ [] → Goes limit b old new rest
one_goes limit b p old new rest h e none = rw none (p ∷ [], e, record { front = b; stream = stream_one limit p b h; parts = sym (append-nil b); ends = pending_nil limit })

-- Only pending bytes.
pub none_goes : (limit : Bounds) (held piece : List ℕ) (old : List Packet) (rest : List ℕ) → Pending limit (held ++ piece) → rest ≡ held ++ piece → Goes limit (held ++ take (length piece) piece) old old rest
none_goes limit held piece old rest h e =
    let all : take (length piece) piece ≡ piece = take_all (length piece) piece (omega arith) in
    let whole : Goes limit (held ++ piece) old old (held ++ piece) = ([], sym (append-nil old), record { front = []; stream = refl; parts = refl; ends = h }) in
    rw (all, e) whole

-- A prefix of pending bytes is pending.
pub pending_less : (limit : Bounds) (b more : List ℕ) → Pending limit (b ++ more) → Pending limit b
pending_less limit b more h = record {
  not_whole = λ p first rest read parts. h.not_whole p first (rest ++ more) read (ap (λ (t : List ℕ). t ++ more) parts ∙ append_assoc first rest more);
  not_faulty = λ k place fault. h.not_faulty k place (faulty_more limit b more k place fault);
}

-- each shorter beginning of the bytes is pending
abbrev pub PendingBefore : Bounds → List ℕ → Type 0
PendingBefore limit b = (n : ℕ) → n < length b → Pending limit (take n b)

-- a packet that they begin with is then all of them
pub before_alone : (limit : Bounds) (b : List ℕ) → PendingBefore limit b → IsAlone limit b
before_alone limit b before p first [] read parts = refl
before_alone limit b before p first (x ∷ rest) read parts =
    let front : take (length first) b ≡ first = ap (take (length first)) parts ∙ take_at first (x ∷ rest) (length first) refl in
    let short : length first < length b = omega (arith, ap length parts, length-append first (x ∷ rest)) in
    absurd ((before (length first) short).not_whole p first [] read (front ∙ sym (append-nil first)))

pub before_one : (limit : Bounds) (x : ℕ) → PendingBefore limit (x ∷ [])
before_one limit x n lt = let none : n ≡ 0 = omega arith in rw none (pending_nil limit)

-- Pending bytes, with at most what they are missing.
pub before_more : (limit : Bounds) (b more : List ℕ) (wanted : ℕ) → Pending limit b → Wants limit b wanted → length more ≤ wanted → PendingBefore limit (b ++ more)
before_more limit b more wanted pending wants few n lt =
    elim (cases_lt n (length b)) [
      | inl less ↦
          let front : take n (b ++ more) ≡ take n b = take-append-le n b more (omega arith) in
          subst (Pending limit) (sym front) (pending_less limit (take n b) (drop n b) (subst (Pending limit) (sym (take-append-drop n b)) pending))
      | inr le ↦
          let front : take n (b ++ more) ≡ b ++ take (n - length b) more = take-append_past b more (n - length b) n (omega arith) in
          subst (Pending limit) (sym front) (wants pending (take (n - length b) more) (omega (arith, length-take (n - length b) more, length-append b more)))
    ]

pub held_alone : (limit : Bounds) (now piece next : List ℕ) (used n wanted : ℕ) → next ≡ now ++ take n (drop used piece) → n ≤ wanted → Wants limit now wanted → Pending limit now → IsAlone limit next
held_alone limit now piece next used n wanted e few wants pending =
    subst (IsAlone limit) (sym e) (before_alone limit (now ++ take n (drop used piece)) (before_more limit now (take n (drop used piece)) wanted pending wants (omega (arith, length-take n (drop used piece), few))))

-- The held bytes after a step are pending: none, if a packet arrived.
pub next_pending : {X : Type 0} (limit : Bounds) (o : Option X) (b new : List ℕ) → IfSome o (λ x. new ≡ []) → IfNone o (Pending limit b) → IfNone o (new ≡ b) → Pending limit new
next_pending limit (Some x) b new taken less holds = rw taken (pending_nil limit)
next_pending limit None b new taken less holds = rw holds less

-- Without an error, nothing is claimed about one.
pub nothing_failed : {X : Type 0} (o : Option X) (held : List ℕ) → o ≡ None → IfSome o (λ e. held ≡ [])
nothing_failed o held is = rw is tt

-- ---- a packet, and then the rest of the piece

pub reads_on : ReadsOn
reads_on limits held piece p n ps rest end h k = record {
  front = (held ++ take n piece) ++ k.front;
  stream = (held ++ take n piece, k.front, h, k.stream, refl);
  parts = sym (all_bytes held piece n) ∙ (ap (λ (t : List ℕ). (held ++ take n piece) ++ t) k.parts ∙ sym (append_assoc (held ++ take n piece) k.front rest));
  ends = k.ends;
}

-- ---- Missing bytes

-- nothing
pub wants_nothing : (limit : Bounds) (b : List ℕ) (w : ℕ) → w ≡ 0 → Wants limit b w
wants_nothing limit b w none pending more few = absurd (omega (arith, few))

-- Fewer bytes are missing after some arrived.
pub wants_less : (limit : Bounds) (b more next : List ℕ) (w left : ℕ) → next ≡ b ++ more → left ≡ w - length more → Wants limit b w → Wants limit next left
wants_less limit b more next w left e left_is h =
    subst (λ (t : List ℕ). Wants limit t left) (sym e)
    (λ pending later few. subst (Pending limit) (sym (append_assoc b more later)) (h (pending_less limit b more pending) (more ++ later) (omega (arith, length-append more later, few, left_is))))

-- less than is wanted: all of the piece
pub wanted_more : (limit : Bounds) (held piece now : List ℕ) (used w : ℕ) → now ≡ held ++ take used piece → Wants limit now w → Pending limit now → length (drop used piece) < w → Pending limit (held ++ piece)
wanted_more limit held piece now used w now_is h pending few =
    subst (Pending limit) (ap (λ (t : List ℕ). t ++ drop used piece) now_is ∙ all_bytes held piece used) (h pending (drop used piece) few)

pub rest_held : (held piece now : List ℕ) (used : ℕ) → now ≡ held ++ take used piece → now ++ drop used piece ≡ held ++ piece
rest_held held piece now used now_is = ap (λ (t : List ℕ). t ++ drop used piece) now_is ∙ all_bytes held piece used

-- memory ran out, and nothing was appended
pub memory_stops : (limit : Bounds) (b : List ℕ) (old new : List Packet) (e : DecodeError) → e ≡ errors.Memory → new ≡ old → 0 < length b → Stops limit b old new e
memory_stops limit b old new e is same some = rw (is, same) (front_stops limit b old errors.Memory some)

-- Two properties that a call ensures on success.
pub on_ok_both : {X E P Q R : Type 0} (r : Result X E) → (P → Q → R) → OnOk r P → OnOk r Q → OnOk r R
on_ok_both (Ok x) f p q = f p q
on_ok_both (Err e) f p q = tt
