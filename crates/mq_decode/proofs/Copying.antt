-- The part of a piece that is copied into the decoder's own buffer.
use Rattle.std.proofs.Common.{◌≡◌, ℕ, ◌+◌, ◌-◌, ◌^◌, ◌<◌, ◌≤◌, min, List, [], ◌∷◌, ◌++◌, length, take, drop, refl, sym, ap, subst, ◌∙◌, arith, inl, inr}
use Rattle.std.proofs.lemmas.Bool.{cases_lt}
use Rattle.std.proofs.lemmas.List.{append-nil, nil_from_length, length-take, length-drop, take-append-drop, take_all}
use Rattle.mq_packet.specs.declared.packet.Packet.{Packet}
use Rattle.mq_decode.specs.Limits.{Bounds}
use Rattle.mq_decode.specs.Grammar.{ReadsWithin, Pending, Goes}
use Rattle.mq_decode.specs.Inside.Grammar.{IsAlone}
use Rattle.mq_decode.specs.Copied.{Adds, Copies, counted_more}
use Rattle.mq_decode.proofs.Streams.{pending_nil}

-- ---- a count that stops

more_than : (most old used n c d : ℕ) → c ≡ min (old + used) most → d ≡ min (c + n) most → d ≡ min (old + (used + n)) most
more_than most old used n c d e f = omega arith

pub counts_then : (old used n c d : ℕ) → c ≡ counted_more old used → d ≡ counted_more c n → d ≡ counted_more old (used + n)
counts_then old used n c d e f = more_than (2 ^ 64 - 1) old used n c d e f

-- A prefix of a list that is long enough.
pub counts_part : (old used n c d : ℕ) (part : List ℕ) → length part ≡ n → c ≡ counted_more old used → d ≡ counted_more c (length part) → d ≡ counted_more old (used + n)
counts_part old used n c d part size e f = counts_then old used n c d e (f ∙ ap (counted_more c) size)

none_more : (most c : ℕ) → c ≤ most → c ≡ min (c + 0) most
none_more most c le = omega arith

-- none more
pub counts_none : (c : ℕ) → c < 2 ^ 64 → c ≡ counted_more c 0
counts_none c lt = none_more (2 ^ 64 - 1) c (omega arith)

-- ---- Completing the held packet

-- a packet that nothing follows is all of the bytes
pub alone_reads : (limit : Bounds) (b : List ℕ) (p : Packet) (n : ℕ) → IsAlone limit b → (n ≤ length b) × ReadsWithin limit p (take n b) → ReadsWithin limit p b
alone_reads limit b p n alone h =
    let parts : b ≡ take n b ++ drop n b = sym (take-append-drop n b) in
    let ended : drop n b ≡ [] = alone p (take n b) (drop n b) h.1 parts in
    let all : b ≡ take n b = parts ∙ (ap (λ (t : List ℕ). take n b ++ t) ended ∙ append-nil (take n b)) in
    subst (λ (s : List ℕ). ReadsWithin limit p s) (sym all) h.1

-- The piece was too short for the held packet.
pub pending_adds : (limit : Bounds) (held piece : List ℕ) → 0 < length held → Pending limit (held ++ piece) → Adds limit held (take (length piece) piece) (drop (length piece) piece)
pending_adds limit [] piece some pending = absurd (omega arith)
pending_adds limit (b ∷ held) piece some pending = inl (
  subst (λ (t : List ℕ). Pending limit ((b ∷ held) ++ t)) (sym (take_all (length piece) piece (omega arith))) pending,
  nil_from_length (drop (length piece) piece) (omega (arith, length-drop (length piece) piece)),
)

-- The held packet is complete with these bytes.
pub packet_adds : (limit : Bounds) (held piece : List ℕ) (p : Packet) (n : ℕ) → 0 < length held → ReadsWithin limit p (held ++ take n piece) → Adds limit held (take n piece) (drop n piece)
packet_adds limit [] piece p n some h = absurd (omega arith)
packet_adds limit (b ∷ held) piece p n some h = inr (p, h)

-- or nothing is held
pub nothing_adds : (limit : Bounds) (held piece : List ℕ) → held ≡ [] → Adds limit held (take 0 piece) (drop 0 piece)
nothing_adds limit [] piece e = refl
nothing_adds limit (b ∷ held) piece e = absurd cc

-- ---- a piece

-- All of it went to the held packet.
pub copies_all : (limit : Bounds) (held piece : List ℕ) (used old c : ℕ) → length piece ≤ used → used ≤ length piece → Adds limit held (take used piece) (drop used piece) → c ≡ counted_more old used → Copies limit held piece old c
copies_all limit held piece used old c long within adds e =
    let none : drop used piece ≡ [] = nil_from_length (drop used piece) (omega (arith, length-drop used piece)) in (
      used,
      record {
        added = take used piece;
        after = drop used piece;
        parts = sym (take-append-drop used piece);
        adds = adds;
        packets = [];
        left = [];
        reading = record { front = []; stream = refl; parts = none; ends = pending_nil limit };
        count = omega (arith, length-take used piece);
      },
      e,
    )

-- The remaining packets were read from the piece, and the rest was held.
pub copies_left : (limit : Bounds) (held piece left : List ℕ) (used old c d : ℕ) (mid new : List Packet) → used ≤ length piece → Adds limit held (take used piece) (drop used piece) → Goes limit (drop used piece) mid new left
    → c ≡ counted_more old used → d ≡ counted_more c (length left) → Copies limit held piece old d
copies_left limit held piece left used old c d mid new within adds goes e f = (
  used + length left,
  record {
    added = take used piece;
    after = drop used piece;
    parts = sym (take-append-drop used piece);
    adds = adds;
    packets = goes.0;
    left = left;
    reading = goes.2;
    count = omega (arith, length-take used piece);
  },
  counts_then old used (length left) c d e f,
)

-- and nothing is left over
pub copies_none : (limit : Bounds) (held piece left : List ℕ) (used old c : ℕ) (mid new : List Packet) → used ≤ length piece → Adds limit held (take used piece) (drop used piece) → Goes limit (drop used piece) mid new left → left ≡ []
    → c ≡ counted_more old used → Copies limit held piece old c
copies_none limit held piece left used old c mid new within adds goes none e = (
  used,
  record {
    added = take used piece;
    after = drop used piece;
    parts = sym (take-append-drop used piece);
    adds = adds;
    packets = goes.0;
    left = left;
    reading = goes.2;
    count = omega (arith, length-take used piece, ap length none);
  },
  e,
)

-- Bytes left in the buffer show that the whole piece went there.
pub all_used : (size used : ℕ) (now : List ℕ) → 0 < length now → (used < size → now ≡ []) → size ≤ used
all_used size used now left none =
    elim (cases_lt used size) [
      | inl lt ↦ absurd (omega (arith, left, ap length (none lt)))
      | inr le ↦ le
    ]

pub goes_all : (limit : Bounds) (held piece : List ℕ) (used : ℕ) (old new : List Packet) (rest : List ℕ) → length piece ≤ used → Goes limit (held ++ take used piece) old new rest → Goes limit (held ++ piece) old new rest
goes_all limit held piece used old new rest long goes =
    let none : drop used piece ≡ [] = nil_from_length (drop used piece) (omega (arith, length-drop used piece)) in
    let all : take used piece ≡ piece = sym (append-nil (take used piece)) ∙ (ap (λ (t : List ℕ). take used piece ++ t) (sym none) ∙ take-append-drop used piece) in
    subst (λ (t : List ℕ). Goes limit (held ++ t) old new rest) all goes
