-- A packet that is held, with nothing behind it.
use Rattle.std.proofs.Common.{◌≡◌, ℕ, ◌<◌, ◌≤◌, Bool, true, false, List, [], ◌∷◌, ◌++◌, length, take, refl, sym, ap, subst, ◌∙◌, arith, inl, inr}
use Rattle.std.proofs.lemmas.List.{append-nil, length-append}
use Rattle.mq_wire.specs.Length.{LengthUnder}
use Rattle.mq_packet.specs.declared.packet.Packet.{Packet}
use Rattle.mq_packet.specs.Encoding.{fields}
use Rattle.mq_decode.specs.declared.fault.DecodeError.{DecodeError}
use Rattle.mq_decode.specs.declared.fault.DecodeError.TheVariants as errors
use Rattle.mq_decode.specs.Copied.{Copies, counted_more}
use Rattle.mq_decode.specs.Grammar.{Appends, Goes, Pending, ReadsWithin, Stops, Takes}
use Rattle.mq_decode.specs.Inside.Grammar.{IsAlone}
use Rattle.mq_decode.specs.Limits.{Bounds}
use Rattle.mq_decode.proofs.Copying.{alone_reads}
use Rattle.mq_decode.proofs.FrontLaws.{parts_of}
use Rattle.mq_decode.proofs.Streams.{before_alone, before_more, memory_stops, one_goes, pending_nil}
use Rattle.mq_decode.proofs.Waiting.{copied}
use Rattle.mq_decode.proofs.Wanting.{wants_one}

-- the packet at the front is all of it
pub alone_appends : (limit : Bounds) (b : List ℕ) (p : Packet) (n : ℕ) (old new : List Packet) → IsAlone limit b → (n ≤ length b) × ReadsWithin limit p (take n b) → new ≡ old ++ p ∷ [] → Appends limit b old new
alone_appends limit b p n old new alone h e = (p, alone_reads limit b p n alone h, e)

some_whole : (limit : Bounds) (b : List ℕ) → (Pending limit b → ⊥) → 0 < length b
some_whole limit [] whole = absurd (whole (pending_nil limit))
some_whole limit (x ∷ b) whole = omega arith

-- memory ran out before it was appended
pub alone_stops : (limit : Bounds) (b : List ℕ) (old new : List Packet) (e : DecodeError) → (Pending limit b → ⊥) → (e ≡ errors.Memory) × (new ≡ old) → Stops limit b old new e
alone_stops limit b old new e whole h = memory_stops limit b old new e h.0 h.1 (some_whole limit b whole)

-- ---- One byte behind pending bytes

pub byte_alone : (limit : Bounds) (held : List ℕ) (x : ℕ) → Pending limit held → IsAlone limit (held ++ x ∷ [])
byte_alone limit held x pending = before_alone limit (held ++ x ∷ []) (before_more limit held (x ∷ []) 1 pending (wants_one limit held) (omega arith))

length_some : (lenient : Bool) (n : ℕ) (len : List ℕ) → LengthUnder lenient n len → 0 < length len
length_some false n [] h = absurd h.0
length_some true n [] h = absurd h.0
length_some lenient n (x ∷ len) h = omega arith

-- no packet has one byte
two_bytes : (limit : Bounds) (p : Packet) (x : ℕ) → ReadsWithin limit p (x ∷ []) → ⊥
two_bytes limit p x h =
    let parts = parts_of limit.lenient p (x ∷ []) h.0 in
    let some : 0 < length parts.len = length_some limit.lenient (length (fields p)) parts.len parts.formed in
    absurd (omega (arith, some, ap length parts.bytes, length-append parts.len (fields p)))

pub takes_goes : (limit : Bounds) (b : List ℕ) (old new : List Packet) (rest : List ℕ) → Takes limit b old new rest → Goes limit b old new rest
takes_goes limit b old new rest (inl h) = ([], h.1 ∙ sym (append-nil old), record { front = []; stream = refl; parts = sym h.2; ends = subst (Pending limit) (sym h.2) h.0 })
takes_goes limit b old new rest (inr h) = one_goes limit b h.0.0 old new rest h.0.1 h.0.2 h.1

pub takes_copies : (limit : Bounds) (held : List ℕ) (x : ℕ) (old new : List Packet) (rest : List ℕ) (c d : ℕ) → Takes limit (held ++ x ∷ []) old new rest → d ≡ counted_more c 1 → Copies limit held (x ∷ []) c d
takes_copies limit held x old new rest c d (inl h) count = copied limit held (x ∷ []) c d h.0 count
takes_copies limit [] x old new rest c d (inr h) count = absurd (two_bytes limit h.0.0 x h.0.1)
takes_copies limit (b ∷ held) x old new rest c d (inr h) count = (
  1,
  record {
    added = x ∷ [];
    after = [];
    parts = refl;
    adds = inr (h.0.0, h.0.1);
    packets = [];
    left = [];
    reading = record { front = []; stream = refl; parts = refl; ends = pending_nil limit };
    count = omega arith;
  },
  count,
)
