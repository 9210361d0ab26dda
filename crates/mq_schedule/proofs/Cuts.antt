-- Texts that are cut.
use Rattle.std.proofs.Common.{◌≡◌, ◌≢◌, ◌↔◌, ℕ, suc, ◌+◌, ◌-◌, ◌<◌, Bool, true, false, not, ◌==◌, nat_lt, List, [], ◌∷◌, ◌++◌, length, take, get_or, Option, Some, None, Bor, IsTrue, refl, sym, ap, ◌∙◌, arith}
use Rattle.std.specs.Prelude.{MatchOption, unwrap_or}
use Rattle.std.specs.Option.{is_some}
use Rattle.std.specs.Io.BufRead.{ends_with_byte, strip_last}
use Rattle.std.proofs.Math.Seq.{get_or-append_seam, take-append_seam, take-length, take-suc}
use Rattle.std.proofs.lemmas.Bool.{and_parts}
use Rattle.std.proofs.lemmas.List.{length-append}
use Rattle.std.proofs.lemmas.List.Splits.{length-slice_split}
use Rattle.std.proofs.lemmas.Bool.Decides.{nat_tests}
use Rattle.mq_schedule.specs.Parts.{parts_left}

-- ---- words

-- Without parts nothing is left.
pub none_is_empty : (by : ℕ) (left : Option (Bor (List ℕ))) (b : Bool) → is_some left ≡ not b → IsTrue b ↔ (parts_left by left ≡ [])
none_is_empty by None true e = (λ _. refl, λ _. refl)
none_is_empty by None false e = absurd (cc e)
none_is_empty by (Some t) true e = absurd (cc e)
none_is_empty by (Some t) false e = (λ h. absurd (cc h), λ h. absurd (omega (arith, ap length h, length-slice_split (λ b. b == by) t.now)))

-- ---- the end of a text

-- a line feed at the end goes
pub strip_feed : (front : List ℕ) → strip_last 10 (front ++ 10 ∷ []) ≡ front
strip_feed front =
    let size : length (front ++ 10 ∷ []) ≡ length front + 1 = length-append front (10 ∷ []) in
    let place : length (front ++ 10 ∷ []) - 1 ≡ length front = omega (arith, size) in
    let last : (get_or (front ++ 10 ∷ []) (length (front ++ 10 ∷ []) - 1) 0 == 10) ≡ true = ap (λ (i : ℕ). get_or (front ++ 10 ∷ []) i 0 == 10) place ∙ ap (λ (x : ℕ). x == 10) (get_or-append_seam front 10 [] 0) in
    let some : nat_lt 0 (length (front ++ 10 ∷ [])) ≡ true = ap (λ (n : ℕ). nat_lt 0 n) size ∙ grind (arith, nat_tests) in
    rw (some, last) (ap (λ (i : ℕ). take i (front ++ 10 ∷ [])) place ∙ take-append_seam front (10 ∷ []))

-- a list and its last element
last_apart : (xs : List ℕ) → 0 < length xs → xs ≡ take (length xs - 1) xs ++ get_or xs (length xs - 1) 0 ∷ []
last_apart xs some =
    let size : suc (length xs - 1) ≡ length xs = omega (arith, some) in
    sym (ap (λ (n : ℕ). take n xs) size ∙ take-length xs) ∙ take-suc xs (length xs - 1) 0 (omega (arith, some))

-- a text without one stays
strip_same : (xs : List ℕ) → ((front : List ℕ) → xs ≢ front ++ 10 ∷ []) → strip_last 10 xs ≡ xs
strip_same xs none = by_end (ends_with_byte 10 xs) refl
  where
    by_end : (b : Bool) → ends_with_byte 10 xs ≡ b → strip_last 10 xs ≡ xs
    by_end false e = rw e refl
    by_end true e =
        let both = and_parts (nat_lt 0 (length xs)) (get_or xs (length xs - 1) 0 == 10) e in
        let some : 0 < length xs = grind (arith, nat_tests) in
        let feed : get_or xs (length xs - 1) 0 ≡ 10 = grind (arith, nat_tests) in
        absurd (none (take (length xs - 1) xs) (last_apart xs some ∙ ap (λ (x : ℕ). take (length xs - 1) xs ++ x ∷ []) feed))

-- a text without the line feed at its end
pub feed_gone : (text : Bor (List ℕ)) (r : Option (Bor (List ℕ))) → MatchOption r ((front : List ℕ) → text.now ≢ front ++ (10 ∷ [])) (λ x. text.now ≡ x.now ++ (10 ∷ [])) → (unwrap_or r text).now ≡ strip_last 10 text.now
feed_gone text None h = sym (strip_same text.now h)
feed_gone text (Some x) h = sym (ap (strip_last 10) h ∙ strip_feed x.now)
