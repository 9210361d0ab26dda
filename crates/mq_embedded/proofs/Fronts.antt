-- Bytes at the front of a buffer.
use Rattle.std.proofs.Common.{◌≡◌, ℕ, ◌+◌, ◌≤◌, List, [], ◌++◌, length, take, drop, refl, ap, ◌∙◌, arith}
use Rattle.std.proofs.lemmas.List.{length-take-le}
use Rattle.mq_bytes.specs.Buffers.{Filled}

-- What `put` says of a buffer before and after.
abbrev pub Puts : ℕ → List ℕ → List ℕ → List ℕ → Type 0
Puts at bytes now new = (old front : List ℕ) → Filled old front now → at ≡ length front → Filled old (front ++ bytes) new

pub put_front : (bytes old new : List ℕ) → Puts 0 bytes old new → Filled old bytes new
put_front bytes old new put = put old [] refl refl

-- The first bytes of a list are at the front.
pub first_put : (bytes old new : List ℕ) (count : ℕ) → count ≤ length bytes → Puts 0 (take count bytes) old new → new ≡ take count bytes ++ drop count old
first_put bytes old new count within put =
    put_front (take count bytes) old new put ∙ ap (λ n. take count bytes ++ drop n old) (length-take-le count bytes within)

-- A list is put behind another.
pub two_put : (a b old between new : List ℕ) (at : ℕ) → at ≡ 0 + length a → Puts 0 a old between → Puts at b between new → Filled old (a ++ b) new
two_put a b old between new at end first second =
    let behind : at ≡ length a = omega arith in
    second old a (put_front a old between first) behind
