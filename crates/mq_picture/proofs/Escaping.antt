-- The bytes of a text in XML.
use Rattle.std.proofs.Common.{◌≡◌, ℕ, ◌/◌, ◌%◌, ◌<◌, ◌==◌, ◌&&◌, ◌||◌, not, nat_le, Bool, true, false, [], ◌∷◌, refl, arith}
use Rattle.std.specs.List.{list_all}
use Rattle.std.specs.Fmt.{digit_glyph}
use Rattle.std.proofs.lemmas.Fmt.{hex_one_digit}
use Rattle.std.proofs.lemmas.Bool.Decides.{nat_tests}
use Rattle.mq_packet.specs.Lines.{byte_digits, escaped_byte}
use Rattle.mq_picture.specs.Texts.{EscapeLaw, is_entity, is_plain, xml_byte}

-- the digits of a byte are two
two_digits : (n : ℕ) → n < 256 → byte_digits n ≡ digit_glyph false (n / 16) ∷ digit_glyph false (n % 16) ∷ []
two_digits n lt =
    let high : n / 16 < 16 = omega arith in
    let low : n % 16 < 16 = omega arith in
    rw (hex_one_digit false (n / 16) high, hex_one_digit false (n % 16) low) refl

-- a digit is none of the four
glyph_plain : (d : ℕ) → d < 16 → is_plain (digit_glyph false d) ≡ true
glyph_plain d lt = grind (arith, nat_tests)

-- whether a byte is printed as it is
abbrev is_shown : ℕ → Bool
is_shown byte = nat_le 33 byte && nat_le byte 126 && not (byte == 37)

-- a byte that is none of the four
other_safe : (byte : ℕ) (shown : Bool) → byte < 256 → is_plain byte ≡ true → is_shown byte ≡ shown → list_all is_plain (escaped_byte byte) ≡ true
other_safe byte true lt plain h = rw (h, plain) refl
other_safe byte false lt plain h = rw (h, two_digits byte lt, glyph_plain (byte / 16) (omega (arith, lt)), glyph_plain (byte % 16) (omega arith)) refl

-- a truth value of two
either : (p q : Bool) → p ≡ true → (p || q) ≡ true
either p q h = rw h refl

abbrev IsSafe : ℕ → Type 0
IsSafe byte = (list_all is_plain (xml_byte byte) || is_entity (xml_byte byte)) ≡ true

safe_quote : (byte : ℕ) (b : Bool) → byte < 256 → (byte == 60) ≡ false → (byte == 62) ≡ false → (byte == 38) ≡ false → (byte == 34) ≡ b → IsSafe byte
safe_quote byte true lt h k l m = rw (h, k, l, m) refl
safe_quote byte false lt h k l m =
    let plain : is_plain byte ≡ true = rw (h, k, l, m) refl in
    let all : list_all is_plain (escaped_byte byte) ≡ true = other_safe byte (is_shown byte) lt plain refl in
    rw (h, k, l, m) (either (list_all is_plain (escaped_byte byte)) (is_entity (escaped_byte byte)) all)

safe_and : (byte : ℕ) (b : Bool) → byte < 256 → (byte == 60) ≡ false → (byte == 62) ≡ false → (byte == 38) ≡ b → IsSafe byte
safe_and byte true lt h k l = rw (h, k, l) refl
safe_and byte false lt h k l = safe_quote byte (byte == 34) lt h k l refl

safe_more : (byte : ℕ) (b : Bool) → byte < 256 → (byte == 60) ≡ false → (byte == 62) ≡ b → IsSafe byte
safe_more byte true lt h k = rw (h, k) refl
safe_more byte false lt h k = safe_and byte (byte == 38) lt h k refl

safe_less : (byte : ℕ) (b : Bool) → byte < 256 → (byte == 60) ≡ b → IsSafe byte
safe_less byte true lt h = rw h refl
safe_less byte false lt h = safe_more byte (byte == 62) lt h refl

pub each_escaped : EscapeLaw
each_escaped byte below = safe_less byte (byte == 60) below refl
