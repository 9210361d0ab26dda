-- Messages that fit in a session, one after another.
use Rattle.std.proofs.Common.{◌≡◌, ℕ, zero, suc, ◌+◌, ◌-◌, ◌≤◌, ◌<◌, Bool, true, false, cond, ◌&&◌, List, [], ◌∷◌, length, drop, get_or, filter, nat_le, Option, Some, None, refl, sym, ap, ap₂, ◌∙◌, arith, eqb, eqb-true, leb-true, leb-false, true≢false}
use Rattle.std.proofs.lemmas.Bool.{le-leb, lt-leb}
use Rattle.std.proofs.lemmas.List.Sums.{sum_by-cons}
use Rattle.std.specs.List.{AllByRecursion}
use Rattle.mq_packet.specs.declared.message.Message.{Message}
use Rattle.mq_flow.specs.Stored.{message_bytes, stored_bytes}
use Rattle.mq_end.specs.Both.{has_identifier}
use Rattle.mq_end.specs.State.{EndState}
use Rattle.mq_tables.specs.Publishing.{MayGo}
use Rattle.mq_tables.specs.Rules.{bytes_of, count_of, fits_left, free_of, has_room, left_of}

-- messages need at most this number of identifiers and of bytes
abbrev pub fits_in : ℕ → Option ℕ → List Message → Bool
fits_in free left ms = nat_le (count_of ms) free && fits_left left (bytes_of ms)

bytes_cons : (m : Message) (ms : List Message) → bytes_of (m ∷ ms) ≡ cond (has_identifier m.qos) (message_bytes m) 0 + bytes_of ms
bytes_cons m ms = sum_by-cons (λ (x : Message). cond (has_identifier x.qos) (message_bytes x) 0) m ms

pub fits_none : (free : ℕ) (left : Option ℕ) → fits_in free left [] ≡ true
fits_none free left = ap₂ (λ (a b : Bool). a && b) (le-leb 0 free (omega arith)) (nothing left)
  where
    nothing : (o : Option ℕ) → fits_left o 0 ≡ true
    nothing None = refl
    nothing (Some n) = le-leb 0 n (omega arith)

-- a message without an identifier needs nothing
pub fits_plain : (free : ℕ) (left : Option ℕ) (m : Message) (ms : List Message) → has_identifier m.qos ≡ false → fits_in free left (m ∷ ms) ≡ fits_in free left ms
fits_plain free left m ms plain =
    ap (λ (n : ℕ). nat_le (count_of (m ∷ ms)) free && fits_left left n) (bytes_cons m ms)
    ∙ ap (λ (b : Bool). nat_le (length (cond b (m ∷ filter (λ x. has_identifier x.qos) ms) (filter (λ x. has_identifier x.qos) ms))) free
    && fits_left left (cond b (message_bytes m) 0 + bytes_of ms)) plain
    ∙ (let same : 0 + bytes_of ms ≡ bytes_of ms = omega arith in ap (λ (n : ℕ). nat_le (count_of ms) free && fits_left left n) same)

one_more : (free n : ℕ) → eqb free 0 ≡ false → nat_le (suc n) free ≡ nat_le n (free - 1)
one_more free n some = go (nat_le n (free - 1)) refl
  where
    positive : (k : ℕ) → eqb k 0 ≡ false → 0 < k
    positive zero e = absurd (true≢false e)
    positive (suc k) e = omega arith

    go : (b : Bool) → nat_le n (free - 1) ≡ b → nat_le (suc n) free ≡ nat_le n (free - 1)
    go true e = le-leb (suc n) free (let l = leb-true n (free - 1) e in let p = positive free some in omega (arith, l, p)) ∙ sym e
    go false e = lt-leb (suc n) free (let l = leb-false n (free - 1) e in let p = positive free some in omega (arith, l, p)) ∙ sym e

none_free : (free n : ℕ) → eqb free 0 ≡ true → nat_le (suc n) free ≡ false
none_free free n none = let z : free ≡ 0 = eqb-true free 0 none in lt-leb (suc n) free (omega (arith, z))

-- what one uses is not left
left_more : (o : Option ℕ) (a b : ℕ) → fits_left o a ≡ true → fits_left o (a + b) ≡ fits_left (left_of o a) b
left_more None a b e = refl
left_more (Some n) a b e = go (nat_le b (n - a)) refl
  where
    within : a ≤ n
    within = leb-true a n e

    go : (t : Bool) → nat_le b (n - a) ≡ t → nat_le (a + b) n ≡ nat_le b (n - a)
    go true t = le-leb (a + b) n (let l = leb-true b (n - a) t in let w = within in omega (arith, l, w)) ∙ sym t
    go false t = lt-leb (a + b) n (let l = leb-false b (n - a) t in let w = within in omega (arith, l, w)) ∙ sym t

left_less : (o : Option ℕ) (a b : ℕ) → fits_left o a ≡ false → fits_left o (a + b) ≡ false
left_less None a b e = absurd (true≢false e)
left_less (Some n) a b e = lt-leb (a + b) n (let l = leb-false a n e in omega (arith, l))

-- one with an identifier needs one, and its bytes
pub fits_next : (free : ℕ) (left : Option ℕ) (m : Message) (ms : List Message) → has_identifier m.qos ≡ true → eqb free 0 ≡ false → fits_left left (message_bytes m) ≡ true
    → fits_in free left (m ∷ ms) ≡ fits_in (free - 1) (left_of left (message_bytes m)) ms
fits_next free left m ms has some fits =
    ap (λ (n : ℕ). nat_le (count_of (m ∷ ms)) free && fits_left left n) (bytes_cons m ms)
    ∙ ap (λ (b : Bool). nat_le (length (cond b (m ∷ filter (λ x. has_identifier x.qos) ms) (filter (λ x. has_identifier x.qos) ms))) free
    && fits_left left (cond b (message_bytes m) 0 + bytes_of ms)) has
    ∙ ap₂ (λ (a b : Bool). a && b) (one_more free (count_of ms) some) (left_more left (message_bytes m) (bytes_of ms) fits)

pub fits_no_more : (free : ℕ) (left : Option ℕ) (m : Message) (ms : List Message) → has_identifier m.qos ≡ true → eqb free 0 ≡ true → fits_in free left (m ∷ ms) ≡ false
fits_no_more free left m ms has none =
    ap (λ (b : Bool). nat_le (length (cond b (m ∷ filter (λ x. has_identifier x.qos) ms) (filter (λ x. has_identifier x.qos) ms))) free && fits_left left (bytes_of (m ∷ ms))) has
    ∙ ap (λ (b : Bool). b && fits_left left (bytes_of (m ∷ ms))) (none_free free (count_of ms) none)

pub fits_too_many : (free : ℕ) (left : Option ℕ) (m : Message) (ms : List Message) → has_identifier m.qos ≡ true → fits_left left (message_bytes m) ≡ false → fits_in free left (m ∷ ms) ≡ false
fits_too_many free left m ms has short =
    ap (λ (n : ℕ). nat_le (count_of (m ∷ ms)) free && fits_left left n) (bytes_cons m ms)
    ∙ ap (λ (b : Bool). nat_le (count_of (m ∷ ms)) free && fits_left left (cond b (message_bytes m) 0 + bytes_of ms)) has
    ∙ ap (λ (b : Bool). nat_le (count_of (m ∷ ms)) free && b) (left_less left (message_bytes m) (bytes_of ms) short)
    ∙ no (nat_le (count_of (m ∷ ms)) free)
  where
    no : (a : Bool) → (a && false) ≡ false
    no true = refl
    no false = refl

-- what an end has is known if there is a message that it may send
pub fits_known : (most_stored : Option ℕ) (s : EndState) (ms : List Message) (free : ℕ) (left : Option ℕ) → AllByRecursion (λ m. MayGo m s) ms
    → (s.end.known ≡ true → free ≡ free_of s) → (s.end.known ≡ true → left ≡ left_of most_stored (stored_bytes s.end.book))
    → fits_in free left ms ≡ has_room most_stored ms s
fits_known most_stored s [] free left all free_is left_is = fits_none free left ∙ sym (fits_none (free_of s) (left_of most_stored (stored_bytes s.end.book)))
fits_known most_stored s (m ∷ ms) free left all free_is left_is = ap₂ (λ (n : ℕ) (o : Option ℕ). fits_in n o (m ∷ ms)) (free_is all.0.known) (left_is all.0.known)

-- the next message of a walk
pub front : (ms : List Message) (i : ℕ) (m : Message) → i < length ms → m ≡ get_or ms i m → drop i ms ≡ m ∷ drop (suc i) ms
front [] i m l is = absurd (omega arith)
front (x ∷ xs) zero m l is = ap (λ (y : Message). y ∷ xs) (sym is)
front (x ∷ xs) (suc i) m l is = front xs i m (omega arith) is

-- after all of them nothing is left
pub ended : (ms : List Message) (i : ℕ) → length ms ≤ i → drop i ms ≡ []
ended [] zero l = refl
ended [] (suc i) l = refl
ended (x ∷ xs) zero l = absurd (omega arith)
ended (x ∷ xs) (suc i) l = ended xs i (omega arith)
