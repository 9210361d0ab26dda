-- Pending output.
use Rattle.std.proofs.Common.{◌≡◌, ◌≤◌, ◌⊎◌, ◌==◌, ◌↔◌, ℕ, zero, suc, true, IsTrue, List, [], ◌∷◌, ◌++◌, Option, refl, take, drop, length, sym, ap, subst, ◌∙◌, arith, append-nil, append_assoc}
use Rattle.std.proofs.lemmas.Bool.Decides.{nat_tests}
use Rattle.std.proofs.lemmas.List.{take-append-drop, take-append-le}
use Rattle.std.specs.Io.KnownBytes.{Appends}
use Rattle.mq_packet.specs.Writing.{AppendsFront}
use Rattle.mq_serve.specs.Pending.{Sends, WritesFront}

-- nothing is behind an empty front
pub empty_if : (front later : List ℕ) → (front ≡ [] → later ≡ []) → IsTrue (length front == 0) ↔ (front ++ later ≡ [])
empty_if [] later whole = ((λ is. whole refl), (λ is. refl))
empty_if (x ∷ front) later whole = ((λ is. absurd (no_zero (length front) is)), (λ is. absurd (no_cons x (front ++ later) is)))
  where
    no_zero : (n : ℕ) → IsTrue (suc n == 0) → ⊥
    no_zero n is = grind (arith, nat_tests)

    no_cons : (y : ℕ) (ys : List ℕ) → y ∷ ys ≡ [] → ⊥
    no_cons y ys is = cc

drop-append-le : (n : ℕ) (xs ys : List ℕ) → n ≤ length xs → drop n (xs ++ ys) ≡ drop n xs ++ ys
drop-append-le zero xs ys low = refl
drop-append-le (suc n) [] ys low = absurd (omega arith)
drop-append-le (suc n) (x ∷ xs) ys low = drop-append-le n xs ys (omega arith)

-- a part of the front was written, and the rest is pending
pub wrote_front : (front later rest : List ℕ) (n : ℕ) (old new : Option (List ℕ)) → n ≤ length front → Appends old new (take n front)
    → rest ≡ drop n front ++ later → WritesFront (front ++ later) rest old new
wrote_front front later rest n old new low written left = record {
  count = n;
  written = subst (Appends old new) (sym (take-append-le n front later low)) written;
  left = left ∙ sym (drop-append-le n front later low);
}

none_left : (rest : List ℕ) → true ≡ (length rest == 0) → rest ≡ []
none_left [] is = refl
none_left (x ∷ rest) is = absurd (grind (arith, nat_tests))

-- the front was written, and the later bytes are the front
pub moved_up : (front later left rest : List ℕ) (n : ℕ) (old new : Option (List ℕ)) → n ≤ length front → Appends old new (take n front) → left ≡ drop n front → true ≡ (length left == 0)
    → rest ≡ later ++ [] → WritesFront (front ++ later) rest old new
moved_up front later left rest n old new low written left_is none rest_is =
    wrote_front front later rest n old new low written (rest_is ∙ append-nil later ∙ sym (ap (λ z. z ++ later) (none_left left none)) ∙ ap (λ z. z ++ later) left_is)

-- ---- sending

-- The first write: bytes from the front were written, and none if others were pending.
pub record First (pending bytes : List ℕ) (count : ℕ) (old new : Option (List ℕ)) : Type 0 where
  pub appended : Appends old new (take count bytes)
  pub waits : (pending ≡ []) ⊎ (count ≡ 0)

pub sends_all : (pending bytes rest : List ℕ) (count : ℕ) (old new : Option (List ℕ)) → First pending bytes count old new → rest ≡ drop count bytes → true ≡ (length rest == 0)
    → Sends bytes pending pending old new
sends_all pending bytes rest count old new first is none = record {
  count = count;
  written = first.appended;
  left = sym (append-nil pending) ∙ ap (λ z. pending ++ z) (sym (none_left rest none) ∙ is);
  waits = first.waits;
}

pub sends_rest : (pending bytes rest kept : List ℕ) (count : ℕ) (old new : Option (List ℕ)) → First pending bytes count old new → rest ≡ drop count bytes → kept ≡ pending ++ rest
    → Sends bytes pending kept old new
sends_rest pending bytes rest kept count old new first is kept_is = record {
  count = count;
  written = first.appended;
  left = kept_is ∙ ap (λ z. pending ++ z) is;
  waits = first.waits;
}

pub send_fails : (pending bytes : List ℕ) (count : ℕ) (old new : Option (List ℕ)) → First pending bytes count old new → AppendsFront old new bytes
send_fails pending bytes count old new first = record {
  front = take count bytes;
  rest = drop count bytes;
  parts = sym (take-append-drop count bytes);
  appends = first.appended;
}
