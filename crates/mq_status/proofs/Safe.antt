-- Escaped text is safe in HTML.
use Rattle.std.proofs.Common.{◌≡◌, ℕ, ◌/◌, ◌%◌, ◌<◌, zero, suc, Bool, true, false, ◌==◌, ◌&&◌, not, nat_le, if◌then◌else◌, List, [], ◌∷◌, ◌++◌, refl, codes, arith}
use Rattle.std.proofs.lemmas.Bool.Decides.{nat_tests}
use Rattle.std.proofs.lemmas.List.Folds.{list_all-append}
use Rattle.std.specs.List.{list_all}
use Rattle.std.specs.Fmt.{digits, digits_onto, digit_glyph}
use Rattle.mq_packet.specs.Lines.{escaped_byte, byte_digits}
use Rattle.mq_status.specs.Html.{HtmlLaws, html_byte, html_escaped, is_plain, is_safe}

-- each byte is plain
abbrev IsPlain : List ℕ → Type 0
IsPlain text = list_all is_plain text ≡ true

glyph : (d : ℕ) → d < 16 → is_plain (digit_glyph false d) ≡ true
glyph d low = grind (arith, nat_tests)

onto : (k n : ℕ) (acc : List ℕ) → IsPlain acc → IsPlain (digits_onto k 16 false n acc)
onto zero n acc h = h
onto (suc k) n acc h =
    let fits : n % 16 < 16 = omega arith in
    let here : IsPlain (digit_glyph false (n % 16) ∷ acc) = rw (glyph (n % 16) fits) h in
    elim (n / 16 == 0) as (λ test. IsPlain (if test then digit_glyph false (n % 16) ∷ acc else digits_onto k 16 false (n / 16) (digit_glyph false (n % 16) ∷ acc))) [
      | true ↦ here
      | false ↦ onto k (n / 16) _ here
    ]

digits_plain : (n : ℕ) → IsPlain (digits 16 false n)
unfolding digits
digits_plain n = onto 64 n [] refl

byte_digits_plain : (byte : ℕ) → IsPlain (byte_digits byte)
byte_digits_plain byte =
    rw (list_all-append is_plain (digits 16 false (byte / 16)) (digits 16 false (byte % 16)), digits_plain (byte / 16)) (digits_plain (byte % 16))

head_of : (a b : Bool) → (a && b) ≡ true → a ≡ true
head_of true b h = refl
head_of false b h = h

tail_of : (a b : Bool) → (a && b) ≡ true → b ≡ true
tail_of true b h = h
tail_of false b h = cc

-- plain bytes before safe text
plain_before : (bytes rest : List ℕ) → IsPlain bytes → is_safe rest ≡ true → is_safe (bytes ++ rest) ≡ true
plain_before [] rest plain safe = safe
plain_before (byte ∷ bytes) rest plain safe =
    rw (head_of (is_plain byte) (list_all is_plain bytes) plain)
    (plain_before bytes rest (tail_of (is_plain byte) (list_all is_plain bytes) plain) safe)

choose : (test : Bool) (xs ys rest : List ℕ) → (test ≡ true → is_safe (xs ++ rest) ≡ true)
    → (test ≡ false → is_safe (ys ++ rest) ≡ true) → is_safe ((if test then xs else ys) ++ rest) ≡ true
choose true xs ys rest here there = here refl
choose false xs ys rest here there = there refl

-- the text for a byte after the tests of the first entities
abbrev from_39 : ℕ → List ℕ
from_39 byte = if byte == 39 then codes "&#39;" else escaped_byte byte

abbrev from_34 : ℕ → List ℕ
from_34 byte = if byte == 34 then codes "&quot;" else from_39 byte

abbrev from_38 : ℕ → List ℕ
from_38 byte = if byte == 38 then codes "&amp;" else from_34 byte

abbrev from_62 : ℕ → List ℕ
from_62 byte = if byte == 62 then codes "&gt;" else from_38 byte

byte_safe : (byte : ℕ) (rest : List ℕ) → is_safe rest ≡ true → is_safe (html_byte byte ++ rest) ≡ true
byte_safe byte rest safe =
    choose (byte == 60) (codes "&lt;") (from_62 byte) rest (λ is. safe) (λ less.
    choose (byte == 62) (codes "&gt;") (from_38 byte) rest (λ is. safe) (λ greater.
    choose (byte == 38) (codes "&amp;") (from_34 byte) rest (λ is. safe) (λ and.
    choose (byte == 34) (codes "&quot;") (from_39 byte) rest (λ is. safe) (λ double.
    choose (byte == 39) (codes "&#39;") (escaped_byte byte) rest (λ is. safe) (λ single.
    choose (nat_le 33 byte && nat_le byte 126 && not (byte == 37)) (byte ∷ []) (codes "%" ++ byte_digits byte) rest
    (λ is. plain_before (byte ∷ []) rest (rw (less, greater, and, double, single) refl) safe)
    (λ is. plain_before (codes "%" ++ byte_digits byte) rest (byte_digits_plain byte) safe))))))

safe : (text : List ℕ) → is_safe (html_escaped text) ≡ true
safe [] = refl
safe (byte ∷ rest) = byte_safe byte (html_escaped rest) (safe rest)

pub html_laws : HtmlLaws
html_laws = record { safe = safe }
