-- How many bytes the first packets of a stream take.
use Rattle.std.proofs.Common.{◌≡◌, ℕ, zero, suc, ◌<◌, List, [], ◌∷◌, ◌++◌, length, take, drop, get_or, Option, Some, refl, sym, ap, ◌∙◌, append_assoc, arith}
use Rattle.std.proofs.lemmas.List.{append-nil, drop_at}
use Rattle.mq_packet.specs.declared.packet.Packet.{Packet}
use Rattle.mq_decode.specs.Limits.{Bounds}
use Rattle.mq_decode.specs.Grammar.{ReadsWithin, Stream}

-- Some packets, one more, and the rest.
pub record Place (limit : Bounds) (ps : List Packet) (i : ℕ) (p : Packet) (b : List ℕ) : Type 0 where
  pub front : List ℕ
  pub one : List ℕ
  pub stream : Stream limit (take i ps) front
  pub encodes : ReadsWithin limit p one
  pub more : List ℕ
  pub parts : b ≡ front ++ (one ++ more)

pub place : (limit : Bounds) (ps : List Packet) (i : ℕ) (p : Packet) (b : List ℕ) → i < length ps → p ≡ get_or ps i p → Stream limit ps b → Place limit ps i p b
place limit [] i p b lt e h = absurd (omega arith)
place limit (q ∷ ps) zero p b lt e h = record {
  front = [];
  one = h.0;
  stream = refl;
  encodes = rw e h.2;
  more = h.1;
  parts = h.4;
}
place limit (q ∷ ps) (suc i) p b lt e h =
    let r = place limit ps i p h.1 (omega arith) e h.3 in
    record {
      front = h.0 ++ r.front;
      one = r.one;
      stream = (h.0, r.front, h.2, r.stream, refl);
      encodes = r.encodes;
      more = r.more;
      parts = h.4 ∙ (ap (λ (t : List ℕ). h.0 ++ t) r.parts ∙ sym (append_assoc h.0 r.front (r.one ++ r.more)));
    }

-- one packet more takes the bytes that it is read of
pub record Longer (limit : Bounds) (ps : List Packet) (i : ℕ) (p : Packet) (b : List ℕ) : Type 0 where
  pub front : List ℕ
  pub one : List ℕ
  pub stream : Stream limit (take i ps) front
  pub encodes : ReadsWithin limit p one
  pub parts : b ≡ front ++ one

pub longer : (limit : Bounds) (ps : List Packet) (i : ℕ) (p : Packet) (b : List ℕ) → i < length ps → p ≡ get_or ps i p → Stream limit (take (suc i) ps) b → Longer limit ps i p b
longer limit [] i p b lt e h = absurd (omega arith)
longer limit (q ∷ ps) zero p b lt e h = record {
  front = [];
  one = h.0;
  stream = refl;
  encodes = rw e h.2;
  parts = h.4 ∙ (ap (λ (t : List ℕ). h.0 ++ t) h.3 ∙ append-nil h.0);
}
longer limit (q ∷ ps) (suc i) p b lt e h =
    let r = longer limit ps i p h.1 (omega arith) e h.3 in
    record {
      front = h.0 ++ r.front;
      one = r.one;
      stream = (h.0, r.front, h.2, r.stream, refl);
      encodes = r.encodes;
      parts = h.4 ∙ (ap (λ (t : List ℕ). h.0 ++ t) r.parts ∙ sym (append_assoc h.0 r.front r.one));
    }

-- If the front has this size, the rest is what follows it.
pub behind : (bytes front rest : List ℕ) (size : ℕ) → bytes ≡ front ++ rest → length front ≡ size → drop size bytes ≡ rest
behind bytes front rest size e n = ap (drop size) e ∙ drop_at front rest size n

pub some_is : (n m : ℕ) (o : Option ℕ) → o ≡ Some n → o ≡ Some m → n ≡ m
some_is n m o e f = let both : Some n ≡ Some m = sym e ∙ f in cc
