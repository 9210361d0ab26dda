-- A copy of the front of bytes, of which a part is taken.
use Rattle.std.proofs.Common.{◌≡◌, ◌≤◌, ◌<◌, ℕ, min, Bool, true, false, List, [], ◌∷◌, length, take, drop, refl, sym, ap, subst, ◌∙◌, arith, inl, inr}
use Rattle.std.proofs.lemmas.Bool.{cases_lt}
use Rattle.std.proofs.lemmas.List.{length-drop, length-take, take-take}
use Rattle.bytes.proofs.Ranges.{drop-take_less}
use Rattle.mq_packet.specs.declared.packet.Packet.{Packet}
use Rattle.mq_decode.specs.Gives.{BeginsWith}
use Rattle.mq_decode.specs.Grammar.{Reads, ReadsWithin}
use Rattle.mq_decode.specs.Limits.{Bounds}

-- If bytes begin with a copy, then without a prefix they begin with the copy without that prefix.
pub begins_behind : (bytes copy : List ℕ) (n : ℕ) → n ≤ length copy → BeginsWith bytes copy → BeginsWith (drop n bytes) (drop n copy)
begins_behind bytes copy n le h = ap (λ k. take k (drop n bytes)) (length-drop n copy) ∙ (sym (drop-take_less bytes n (length copy) le) ∙ ap (drop n) h)

pub begins_with_front : (bytes : List ℕ) (n : ℕ) → n ≤ length bytes → BeginsWith bytes (take n bytes)
begins_with_front bytes n le = ap (λ k. take k bytes) (omega (arith, le, length-take n bytes))

-- the front of a copy that is long enough is that of all bytes
pub front_of_copy : (bytes copy : List ℕ) (n : ℕ) → n ≤ length copy → BeginsWith bytes copy → take n copy ≡ take n bytes
front_of_copy bytes copy n le h = sym (ap (take n) h) ∙ take-take n (length copy) bytes le

begins_with_none : (bytes copy : List ℕ) → length copy ≡ 0 → BeginsWith bytes copy
begins_with_none bytes [] e = refl
begins_with_none bytes (x ∷ copy) e = absurd (omega (arith, e))

-- The same if the copy may be shorter.
pub begins_behind_some : (bytes copy : List ℕ) (n : ℕ) → BeginsWith bytes copy → BeginsWith (drop n bytes) (drop (min n (length copy)) copy)
begins_behind_some bytes copy n h =
    elim (cases_lt (length copy) n) [
      | inl lt ↦ begins_with_none (drop n bytes) (drop (min n (length copy)) copy) (omega (arith, length-drop (min n (length copy)) copy, lt))
      | inr le ↦ subst (λ k. BeginsWith (drop n bytes) (drop k copy)) (omega (arith, le)) (begins_behind bytes copy n (omega (arith, le)) h)
    ]

reads_some : (lenient : Bool) (p : Packet) (b : List ℕ) → Reads lenient p b → 0 < length b
reads_some false p b h = omega (arith, ap length h.bytes)
reads_some true p b h = omega (arith, ap length h.bytes)

-- a packet has at least a byte
pub size_some : (limits : Bounds) (p : Packet) (size : ℕ) (b : List ℕ) → ReadsWithin limits p (take size b) → 0 < size
size_some limits p size b h = omega (arith, reads_some limits.lenient p (take size b) h.0, length-take size b)
