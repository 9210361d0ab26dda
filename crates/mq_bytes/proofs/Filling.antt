-- Buffers that are filled from the front.
use Rattle.std.proofs.Common.{◌≡◌, ℕ, ◌+◌, ◌≤◌, List, [], ◌∷◌, ◌++◌, length, take, drop, refl, sym, ap, subst, ◌∙◌, append_assoc, append-nil, arith}
use Rattle.std.proofs.lemmas.List.{length-append, length-drop}
use Rattle.std.proofs.Math.Seq.{drop-append_seam, take-append_seam}
use Rattle.mq_bytes.specs.Buffers.{Filled}

-- the written bytes, and the bytes behind them
pub filled_front : (old front new : List ℕ) → Filled old front new → take (length front) new ≡ front
filled_front old front new f = ap (λ (z : List ℕ). take (length front) z) f ∙ take-append_seam front (drop (length front) old)

pub filled_behind : (old front new : List ℕ) → Filled old front new → drop (length front) new ≡ drop (length front) old
filled_behind old front new f = ap (λ (z : List ℕ). drop (length front) z) f ∙ drop-append_seam front (drop (length front) old)

pub filled_length : (old front new : List ℕ) → length front ≤ length old → Filled old front new → length new ≡ length old
filled_length old front new le f =
    let all = ap length f in
    let parts = length-append front (drop (length front) old) in
    let rest = length-drop (length front) old in
    omega arith

-- What `put` says of a buffer before and after.
abbrev pub Puts : ℕ → List ℕ → List ℕ → List ℕ → Type 0
Puts at bytes now new = (old front : List ℕ) → Filled old front now → at ≡ length front → Filled old (front ++ bytes) new

-- The first byte and the remaining length.
pub begin_fills : (first at : ℕ) (bytes len old mid new : List ℕ) → Puts 0 (first ∷ []) old mid → Puts at bytes mid new → at ≡ 1 → bytes ≡ len → Filled old (first ∷ len) new
begin_fills first at bytes len old mid new one two here same =
    subst (λ (z : List ℕ). Filled old (first ∷ z) new) same (two old (first ∷ []) (one old [] refl refl) here)

-- The fields behind them.
pub fields_fill : (first at : ℕ) (len body old mid new : List ℕ) → Filled old (first ∷ len) mid → Puts at body mid new → at ≡ 1 + length len → Filled old (first ∷ (len ++ body)) new
fields_fill first at len body old mid new f put here = put old (first ∷ len) f (omega arith)

-- Two writes, one behind the other.
pub puts_then : (at behind : ℕ) (x y now mid new : List ℕ) → Puts at x now mid → behind ≡ at + length x → Puts behind y mid new → Puts at (x ++ y) now new
puts_then at behind x y now mid new one here two old front f start =
    let size = length-append front x in
    let all = two old (front ++ x) (one old front f start) (omega (arith, here, start, size)) in
    subst (λ (z : List ℕ). Filled old z new) (append_assoc front x y) all

pub puts_nothing : (at : ℕ) (now : List ℕ) → Puts at [] now now
puts_nothing at now old front f start = subst (λ (z : List ℕ). Filled old z now) (sym (append-nil front)) f
