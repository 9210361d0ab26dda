-- The laws of reading texts.
use Rattle.std.proofs.Common.{◌≡◌, ℕ, zero, suc, ◌+◌, ◌-◌, ◌*◌, ◌/◌, ◌%◌, ◌<◌, ◌≤◌, Bool, true, false, true≢false, cond, ltb, ◌||◌, ◌==◌, List, [], ◌∷◌, ◌++◌, length, take, drop, slice_range, get_or, Result, Ok, Err, refl, sym, ap, subst, ◌∙◌, add-zero, arith, inl, inr}
use Rattle.std.specs.List.{list_any}
use Rattle.std.specs.Str.{IsUtf8, IsAscii, is_utf8}
use Rattle.std.proofs.lemmas.Bool.{cases_Bool, le-ltb, ltb-false, or_left}
use Rattle.std.proofs.lemmas.List.{take_at, length-append, length-take, length-drop, take-append-drop, take-take, get_or-drop, drop-drop}
use Rattle.std.proofs.Math.Seq.{drop-append_seam}
use Rattle.std.proofs.lemmas.Str.{IsUtf8-from_is_utf8, IsUtf8-from_ascii, is_utf8-from_IsUtf8}
use Rattle.mq_wire.specs.declared.text.FieldFault.{FieldFault}
use Rattle.mq_wire.specs.declared.text.FieldFault.TheVariants.{Past, NotUtf8, Nul}
use Rattle.mq_wire.specs.Number.{number, number_in, NumberLaws}
use Rattle.mq_wire.specs.Text.{IsText, has_nul, counted}
use Rattle.mq_wire.specs.Inside.Text.{is_special}
use Rattle.mq_wire.specs.Bytes.{AreBytes}
use Rattle.mq_wire.specs.TextReading.{read_text, checked_text, with_place, text_end, text_bytes, TextLaws}

pub not_utf8 : (t : List ℕ) → (IsUtf8 t → ⊥) → is_utf8 t ≡ false
not_utf8 t fails =
    elim (cases_Bool (is_utf8 t)) [
      | inl holds ↦ absurd (fails (IsUtf8-from_is_utf8 t holds))
      | inr e ↦ e
    ]

pub is_text : (t : List ℕ) → IsUtf8 t → has_nul t ≡ false → length t < 65536 → IsText t
is_text t utf8 no_nul short = record { utf8 = is_utf8-from_IsUtf8 t utf8; no_nul = no_nul; short = short }

-- ---- characters of ASCII

-- The first byte and the others, if none is special.
record Plain (b : ℕ) (t : List ℕ) : Type 0 where
  some : (b == 0) ≡ false
  ascii : b < 128
  others : list_any is_special t ≡ false

low : (b : ℕ) → (b == 0) ≡ false → is_special b ≡ false → b < 128
low b some e = omega (arith, ltb-false 127 b (subst (λ x. (x || ltb 127 b) ≡ false) some e))

plain_parts : (b : ℕ) (t : List ℕ) → list_any is_special (b ∷ t) ≡ false → Plain b t
plain_parts b t none =
    elim (cases_Bool (is_special b)) [
      | inl special ↦ absurd (true≢false (sym (or_left (is_special b) (list_any is_special t) special) ∙ none))
      | inr e ↦
          elim (cases_Bool (b == 0)) [
            | inl nul ↦ absurd (true≢false (sym (or_left (b == 0) (ltb 127 b) nul) ∙ e))
            | inr some ↦ record { some = some; ascii = low b some e; others = subst (λ x. (x || list_any is_special t) ≡ false) e none }
          ]
    ]

plain_ascii : (t : List ℕ) → list_any is_special t ≡ false → IsAscii t
plain_ascii [] none i = omega arith
plain_ascii (b ∷ t) none zero = (plain_parts b t none).ascii
plain_ascii (b ∷ t) none (suc i) = plain_ascii t (plain_parts b t none).others i

plain_nul : (t : List ℕ) → list_any is_special t ≡ false → has_nul t ≡ false
plain_nul [] none = refl
plain_nul (b ∷ t) none = rw ((plain_parts b t none).some) (plain_nul t (plain_parts b t none).others)

-- Bytes of which none is special are UTF-8 without U+0000.
pub plain_utf8 : (t : List ℕ) → list_any is_special t ≡ false → IsUtf8 t
plain_utf8 t none = IsUtf8-from_ascii t (plain_ascii t none)

pub plain_text : (t : List ℕ) → list_any is_special t ≡ false → length t < 65536 → IsText t
plain_text t none short = is_text t (plain_utf8 t none) (plain_nul t none) short

-- ---- numbers in bytes

number_in-drop : (bytes : List ℕ) (at : ℕ) → number_in (drop at bytes) 0 ≡ number_in bytes at
number_in-drop bytes at =
    let high : get_or (drop at bytes) 0 0 ≡ get_or bytes at 0 = simp (get_or-drop, add-zero) in
    let low : get_or (drop at bytes) 1 0 ≡ get_or bytes (at + 1) 0 = simp get_or-drop in
    rw (high, low) refl

number_in-number : (n : ℕ) (rest : List ℕ) → number_in (number n ++ rest) 0 ≡ n
number_in-number n rest = omega arith

number_in-lt : (bytes : List ℕ) (at : ℕ) → AreBytes bytes → number_in bytes at < 65536
number_in-lt bytes at fits = omega (arith, fits at, fits (at + 1))

-- Two bytes are the encoding of the number that is read from them.
number_of_two : (bytes : List ℕ) → AreBytes bytes → 2 ≤ length bytes → bytes ≡ number (number_in bytes 0) ++ drop 2 bytes
number_of_two [] fits two = absurd (omega arith)
number_of_two (a ∷ []) fits two = absurd (omega arith)
number_of_two (a ∷ b ∷ rest) fits two =
    let high : (256 * a + b) / 256 ≡ a = omega (arith, fits 0, fits 1) in
    let low : (256 * a + b) % 256 ≡ b = omega (arith, fits 0, fits 1) in
    rw (high, low) refl

AreBytes-drop : (n : ℕ) (bytes : List ℕ) → AreBytes bytes → AreBytes (drop n bytes)
AreBytes-drop n bytes h i = rw get_or-drop (h (n + i))

-- ---- an encoded text is read back

again : (front t rest : List ℕ) → IsText t → read_text (front ++ (counted t ++ rest)) (length front) ≡ Ok (t, length front + 2 + length t)
unfolding read_text checked_text
again front t rest h =
    let bytes : List ℕ = front ++ (counted t ++ rest) in
    let seam : drop (length front) bytes ≡ counted t ++ rest = drop-append_seam front (counted t ++ rest) in
    let n_is : number_in bytes (length front) ≡ length t = sym (number_in-drop bytes (length front)) ∙ (ap (λ (b : List ℕ). number_in b 0) seam ∙ number_in-number (length t) (t ++ rest)) in
    let len : length bytes ≡ length front + (2 + (length t + length rest)) = omega (arith, length-append front (counted t ++ rest), length-append t rest) in
    let one : ltb (length bytes) (length front + 2) ≡ false = le-ltb _ _ (omega arith) in
    let two : ltb (length bytes) (text_end bytes (length front)) ≡ false = le-ltb _ _ (omega arith) in
    let behind : drop (length front + 2) bytes ≡ t ++ rest = sym (drop-drop 2 (length front) bytes) ∙ ap (λ (b : List ℕ). drop 2 b) seam in
    let t_is : text_bytes bytes (length front) ≡ t = rw (n_is, behind) (take_at t rest (length t) refl) in
    rw (one, two, t_is, h.utf8, h.no_nul, n_is) refl

-- ---- a text that is read is encoded

guards : (c1 c2 : Bool) (r : Result (List ℕ) FieldFault) (place : ℕ) (y : List ℕ × ℕ) → cond c1 (Err Past) (cond c2 (Err Past) (with_place place r)) ≡ Ok y
    → (c1 ≡ false) × (c2 ≡ false) × (t : List ℕ) × (r ≡ Ok t) × ((t, place) ≡ y)
guards true c2 r place y e = absurd cc
guards false true r place y e = absurd cc
guards false false (Err f) place y e = absurd cc
guards false false (Ok t) place y e = (refl, refl, t, refl, cc)

checked : (utf8 nul : Bool) (t u : List ℕ) → cond utf8 (cond nul (Err Nul) (Ok t)) (Err NotUtf8) ≡ Ok u → (utf8 ≡ true) × (nul ≡ false) × (t ≡ u)
checked true false t u e = (refl, refl, cc)
checked true true t u e = absurd cc
checked false nul t u e = absurd cc

-- The text with the index after it.
abbrev placed : List ℕ → ℕ → List ℕ × ℕ
placed t end = (t, end)

abbrev Found : List ℕ → ℕ → List ℕ × ℕ → Type 0
Found bytes at x = IsText x.0 × (x.1 ≡ at + 2 + length x.0) × (x.1 ≤ length bytes) × (drop at bytes ≡ counted x.0 ++ drop x.1 bytes)

found : (bytes : List ℕ) (at : ℕ) (t : List ℕ) (end : ℕ) → AreBytes bytes → read_text bytes at ≡ Ok (t, end)
    → IsText t × (end ≡ at + 2 + length t) × (end ≤ length bytes) × (drop at bytes ≡ counted t ++ drop end bytes)
unfolding read_text checked_text
found bytes at t end fits e =
    let g = guards (ltb (length bytes) (at + 2)) (ltb (length bytes) (text_end bytes at)) (checked_text (text_bytes bytes at)) (text_end bytes at) (t, end) e in
    let k = checked (is_utf8 (text_bytes bytes at)) (has_nul (text_bytes bytes at)) (text_bytes bytes at) g.2 g.3 in
    let made : placed (text_bytes bytes at) (text_end bytes at) ≡ placed t end = ap (λ (u : List ℕ). placed u (text_end bytes at)) k.2 ∙ g.4 in
    let n = number_in bytes at in
    let room : at + 2 ≤ length bytes = ltb-false _ _ g.0 in
    let whole : at + 2 + n ≤ length bytes = ltb-false _ _ g.1 in
    let n_lt : n < 65536 = number_in-lt bytes at fits in
    let len : length (text_bytes bytes at) ≡ n = omega (arith, length-take n (drop (at + 2) bytes), length-drop (at + 2) bytes) in
    let rest = drop at bytes in
    let two : 2 ≤ length rest = omega (arith, length-drop at bytes) in
    let head : rest ≡ number n ++ drop 2 rest = subst (λ (k : ℕ). rest ≡ number k ++ drop 2 rest) (number_in-drop bytes at) (number_of_two rest (AreBytes-drop at bytes fits) two) in
    let behind : drop 2 rest ≡ drop (at + 2) bytes = drop-drop 2 at bytes in
    let split : drop (at + 2) bytes ≡ text_bytes bytes at ++ drop (text_end bytes at) bytes =
    sym (take-append-drop n (drop (at + 2) bytes)) ∙ ap (λ (b : List ℕ). text_bytes bytes at ++ b) (drop-drop n (at + 2) bytes) in
    let parts : rest ≡ counted (text_bytes bytes at) ++ drop (text_end bytes at) bytes =
    head ∙ rw (len, behind) (ap (λ (b : List ℕ). number n ++ b) split) in
    subst (Found bytes at) made (record { utf8 = k.0; no_nul = k.1; short = omega arith }, omega arith, whole, parts)

pub laws : TextLaws
laws = record { again = again; found = found }

pub number_laws : NumberLaws
number_laws = record { again = number_in-number; found = number_of_two; below = number_in-lt }

-- A checked text is all of its bytes.
pub checked_is : (t u : List ℕ) → Ok u ≡ checked_text t → u ≡ t
unfolding checked_text
checked_is t u e = go (is_utf8 t) (has_nul t) e
  where
    go : (a b : Bool) → Ok u ≡ (cond a (cond b (Err Nul) (Ok t)) (Err NotUtf8)) → u ≡ t
    go true true e = absurd cc
    go true false e = cc
    go false b e = absurd cc

-- The range of the bytes of a text.
pub stands_is : (xs text : List ℕ) (a n m : ℕ) → text ≡ take n (take m (drop a xs)) → n ≤ m → slice_range xs a (a + n) ≡ text
stands_is xs text a n m e le =
    let same : a + n - a ≡ n = omega arith in
    ap (λ (k : ℕ). take k (drop a xs)) same ∙ (sym (take-take n m (drop a xs) le) ∙ sym e)
