-- Streams: one after another, cut anywhere, and without a fault in front.
use Rattle.std.proofs.Common.{◌≡◌, ℕ, ◌+◌, ◌<◌, List, [], ◌∷◌, ◌++◌, length, refl, sym, ap, subst, ◌∙◌, append_assoc, arith}
use Rattle.mq_packet.specs.declared.packet.Packet.{Packet}
use Rattle.mq_decode.specs.declared.fault.FaultKind.{FaultKind}
use Rattle.mq_decode.specs.declared.fault.FaultKind.TheVariants.{LengthTooLong, LengthOverlong}
use Rattle.mq_decode.specs.Limits.{Bounds}
use Rattle.mq_decode.specs.Grammar.{ReadsWithin, Stream, BadLength, Faulty, AtFirst, AtLength, AtSize, AtField}
use Rattle.mq_decode.specs.Laws.{ReadsAgain}

-- ---- one stream after another

pub stream_joins : (limit : Bounds) (q ps : List Packet) (b c : List ℕ) → Stream limit q b → Stream limit ps c → Stream limit (q ++ ps) (b ++ c)
stream_joins limit [] ps b c s t = subst (Stream limit ps) (sym (ap (λ (x : List ℕ). x ++ c) s)) t
stream_joins limit (p ∷ q) ps b c s t = (s.0, s.1 ++ c, s.2, stream_joins limit q ps s.1 c s.3 t, ap (λ (x : List ℕ). x ++ c) s.4 ∙ append_assoc s.0 s.1 c)

-- ---- a cut

-- the packets behind some that are read in front
abbrev pub Behind : Bounds → List Packet → List Packet → List ℕ → Type 0
Behind limit q ps rest = (q2 : List Packet) × (q ≡ ps ++ q2) × Stream limit q2 rest

no_bytes : (first b : List ℕ) → 0 < length first → [] ≡ first ++ b → ⊥
no_bytes [] b some e = omega arith
no_bytes (x ∷ first) b some e = cc

cut_first : ReadsAgain → (limit : Bounds) (q : List Packet) (p : Packet) (ps : List Packet) (all first fr rest : List ℕ) → ReadsWithin limit p first
    → Stream limit q all → all ≡ first ++ (fr ++ rest)
    → ((q : List Packet) (b : List ℕ) → Stream limit q b → b ≡ fr ++ rest → Behind limit q ps rest) → Behind limit q (p ∷ ps) rest
cut_first reads limit [] p ps all first fr rest h s e next = absurd (no_bytes first (fr ++ rest) (reads.some limit p first h) (sym s ∙ e))
cut_first reads limit (r ∷ q) p ps all first fr rest h s e next =
    let same = reads.one limit p r first s.0 (fr ++ rest) s.1 h s.2 (sym e ∙ s.4) in
    let n = next q s.1 s.3 (sym same.1) in
    (n.0, (λ i. sym same.0 i ∷ n.1 i), n.2)

-- Packets read in front of the rest are the first ones of all; the rest is the others.
pub cut : ReadsAgain → (limit : Bounds) (q ps : List Packet) (all front rest : List ℕ) → Stream limit q all → Stream limit ps front
    → all ≡ front ++ rest → Behind limit q ps rest
cut reads limit q [] all front rest s t e = (q, refl, subst (Stream limit q) (e ∙ ap (λ (x : List ℕ). x ++ rest) t) s)
cut reads limit q (p ∷ ps) all front rest s t e =
    cut_first reads limit q p ps all t.0 t.1 rest t.2 s (e ∙ (ap (λ (x : List ℕ). x ++ rest) t.4 ∙ append_assoc t.0 t.1 rest))
    (λ q b s e. cut reads limit q ps b t.1 rest s t.3 e)

-- ---- The bytes behind a fault make no difference

bad_length_more : (limit : Bounds) (rest more : List ℕ) (k : FaultKind) (place : ℕ) → BadLength limit rest k place → BadLength limit (rest ++ more) k place
bad_length_more limit rest more LengthTooLong place h = (
  record {
    digits = h.0.digits;
    rest = h.0.rest ++ more;
    parts = ap (λ (t : List ℕ). t ++ more) h.0.parts ∙ append_assoc h.0.digits h.0.rest more;
    following = h.0.following;
    four = h.0.four;
  },
  h.1,
)
bad_length_more limit rest more LengthOverlong place h = (
  h.0,
  record {
    digits = h.1.digits;
    rest = h.1.rest ++ more;
    parts = ap (λ (t : List ℕ). t ++ more) h.1.parts ∙ append_assoc h.1.digits (0 ∷ h.1.rest) more;
    following = h.1.following;
    some = h.1.some;
    three = h.1.three;
    counted = h.1.counted;
  },
)
bad_length_more limit rest more k place h = absurd h

faulty_more : (limit : Bounds) (b more : List ℕ) (k : FaultKind) (place : ℕ) → Faulty limit b k place → Faulty limit (b ++ more) k place
faulty_more limit b more k place (AtFirst h) =
    AtFirst (record { first = h.first; rest = h.rest ++ more; bytes = ap (λ (t : List ℕ). t ++ more) h.bytes; fault = h.fault; here = h.here })
faulty_more limit b more k place (AtLength h) =
    AtLength (record {
      first = h.first;
      rest = h.rest ++ more;
      bytes = ap (λ (t : List ℕ). t ++ more) h.bytes;
      kind = h.kind;
      right = h.right;
      fault = bad_length_more limit h.rest more k place h.fault;
    })
faulty_more limit b more k place (AtSize h) =
    AtSize (record {
      first = h.first;
      n = h.n;
      len = h.len;
      rest = h.rest ++ more;
      bytes = ap (λ (t : List ℕ). t ++ more) h.bytes ∙ ap (λ (t : List ℕ). h.first ∷ t) (append_assoc h.len h.rest more);
      kind = h.kind;
      right = h.right;
      formed = h.formed;
      fault = h.fault;
      here = h.here;
    })
faulty_more limit b more k place (AtField h) =
    AtField (record {
      first = h.first;
      len = h.len;
      body = h.body;
      rest = h.rest ++ more;
      bytes = ap (λ (t : List ℕ). t ++ more) h.bytes ∙
          ap (λ (t : List ℕ). h.first ∷ t) (append_assoc h.len (h.body ++ h.rest) more ∙ ap (λ (t : List ℕ). h.len ++ t) (append_assoc h.body h.rest more));
      kind = h.kind;
      right = h.right;
      formed = h.formed;
      size = h.size;
      left = h.left;
      fault = h.fault;
      here = h.here;
    })

front_some : (b : List ℕ) (x : ℕ) (xs : List ℕ) → b ≡ x ∷ xs → 0 < length b
front_some b x xs e = let n : length b ≡ length (x ∷ xs) = ap length e in let m : length (x ∷ xs) ≡ 1 + length xs = omega arith in omega arith

-- no bytes are no fault
faulty_some : (limit : Bounds) (b : List ℕ) (k : FaultKind) (place : ℕ) → Faulty limit b k place → 0 < length b
faulty_some limit b k place (AtFirst h) = front_some b h.first h.rest h.bytes
faulty_some limit b k place (AtLength h) = front_some b h.first h.rest h.bytes
faulty_some limit b k place (AtSize h) = front_some b h.first (h.len ++ h.rest) h.bytes
faulty_some limit b k place (AtField h) = front_some b h.first (h.len ++ (h.body ++ h.rest)) h.bytes

-- a front of packets has no fault
pub no_fault : ReadsAgain → (limit : Bounds) (q : List Packet) (rest more : List ℕ) (k : FaultKind) (place : ℕ) → Stream limit q (rest ++ more)
    → Faulty limit rest k place → ⊥
no_fault reads limit [] rest more k place s f = no_bytes rest more (faulty_some limit rest k place f) (sym s)
no_fault reads limit (p ∷ q) rest more k place s f =
    reads.right limit p s.0 s.1 k place s.2 (subst (λ (x : List ℕ). Faulty limit x k place) s.4 (faulty_more limit rest more k place f))
