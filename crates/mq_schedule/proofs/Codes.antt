-- Bytes that are written as codes, of which none begins another.
use Rattle.std.proofs.Common.{◌≡◌, ◌≢◌, ℕ, suc, ◌+◌, ◌*◌, ◌/◌, ◌%◌, ◌<◌, Bool, true, false, List, [], ◌∷◌, ◌++◌, ◌==◌, length, get_or, flat_map, refl, sym, ap, ◌∙◌, append_assoc, arith}
use Rattle.std.specs.Fmt.{digit_glyph}
use Rattle.std.proofs.lemmas.Fmt.{hex_one_digit}
use Rattle.std.proofs.lemmas.Bool.Decides.{nat_tests}
use Rattle.hex.specs.Hex.{IsBytes}
use Rattle.mq_packet.specs.Lines.{byte_digits, escaped_byte}
use Rattle.mq_schedule.specs.Parts.{is_plain}

-- ---- two digits

-- the digits of a byte are two
pub two_digits : (n : ℕ) → n < 256 → byte_digits n ≡ digit_glyph false (n / 16) ∷ digit_glyph false (n % 16) ∷ []
two_digits n lt =
    let high : n / 16 < 16 = omega arith in
    let low : n % 16 < 16 = omega arith in
    rw (hex_one_digit false (n / 16) high, hex_one_digit false (n % 16) low) refl

-- the byte of two digits
pub byte_of : (h l high low : ℕ) → (h < 16) × (digit_glyph false h ≡ high) → (l < 16) × (digit_glyph false l ≡ low) → (h * 16 + l < 256) × (byte_digits (h * 16 + l) ≡ high ∷ low ∷ [])
byte_of h l high low x y =
    let small : h * 16 + l < 256 = omega (arith, x.0, y.0) in
    let up : (h * 16 + l) / 16 ≡ h = omega (arith, x.0, y.0) in
    let down : (h * 16 + l) % 16 ≡ l = omega (arith, x.0, y.0) in
    (small, two_digits (h * 16 + l) small ∙ rw (up, down, x.1, y.1) refl)

-- a first byte that is no digit
pub no_high : (high low : ℕ) → ((v : ℕ) → ¬ ((v < 16) × (digit_glyph false v ≡ high))) → (n : ℕ) → ¬ ((n < 256) × (byte_digits n ≡ high ∷ low ∷ []))
no_high high low none n h =
    let same = sym (two_digits n h.0) ∙ h.1 in
    let glyph : digit_glyph false (n / 16) ≡ high = cc same in
    none (n / 16) (omega (arith, h.0), glyph)

-- a second byte that is no digit
pub no_low : (high low : ℕ) → ((v : ℕ) → ¬ ((v < 16) × (digit_glyph false v ≡ low))) → (n : ℕ) → ¬ ((n < 256) × (byte_digits n ≡ high ∷ low ∷ []))
no_low high low none n h =
    let same = sym (two_digits n h.0) ∙ h.1 in
    let glyph : digit_glyph false (n % 16) ≡ low = cc same in
    none (n % 16) (omega (arith, h.0), glyph)

-- If a list begins with two digits, they are its first two items.
pub pair_is : (left after : List ℕ) (b : ℕ) → b < 256 → left ≡ byte_digits b ++ after → byte_digits b ≡ get_or left 0 0 ∷ get_or left 1 0 ∷ []
pair_is left after b lt e =
    let two : left ≡ digit_glyph false (b / 16) ∷ digit_glyph false (b % 16) ∷ after = e ∙ ap (λ (t : List ℕ). t ++ after) (two_digits b lt) in
    two_digits b lt ∙ ap (λ (t : List ℕ). get_or t 0 0 ∷ get_or t 1 0 ∷ []) (sym two)

-- the first two bytes are the digits of no byte
pub no_pair : (left after : List ℕ) (b : ℕ) → ((n : ℕ) → ¬ ((n < 256) × (byte_digits n ≡ get_or left 0 0 ∷ get_or left 1 0 ∷ []))) → b < 256 → left ≢ byte_digits b ++ after
no_pair left after b none lt e = none b (lt, pair_is left after b lt e)

-- fewer than two bytes are the digits of no byte
pub short_pair : (left after : List ℕ) (b : ℕ) → length left < 2 → b < 256 → left ≢ byte_digits b ++ after
short_pair left after b short lt e =
    let two : left ≡ digit_glyph false (b / 16) ∷ digit_glyph false (b % 16) ∷ after = e ∙ ap (λ (t : List ℕ). t ++ after) (two_digits b lt) in
    absurd (omega (arith, ap length two, short))

-- ---- lists that are empty or not

-- a list that is not of length 0
pub some_left : (xs : List ℕ) → false ≡ (length xs == 0) → xs ≢ []
some_left xs h e = let k = rw e at h in absurd (cc k)

-- a list of length 0
pub none_left : (xs : List ℕ) → true ≡ (length xs == 0) → xs ≡ []
none_left [] h = refl
none_left (x ∷ xs) h = absurd (grind (arith, nat_tests))

-- ---- codes

-- no code begins another
pub record IsCode (f : ℕ → List ℕ) : Type 0 where
  pub some : (a : ℕ) (r : List ℕ) → a < 256 → f a ++ r ≢ []
  pub apart : (a b : ℕ) (r s : List ℕ) → a < 256 → b < 256 → f a ++ r ≡ f b ++ s → (a ≡ b) × (r ≡ s)

-- a digit shows its value
glyph_same : (a b : ℕ) → a < 16 → b < 16 → digit_glyph false a ≡ digit_glyph false b → a ≡ b
glyph_same a b x y e = grind (arith, nat_tests)

-- Two digits determine their byte and their end.
digits_apart : (a b : ℕ) (r s : List ℕ) → a < 256 → b < 256 → byte_digits a ++ r ≡ byte_digits b ++ s → (a ≡ b) × (r ≡ s)
digits_apart a b r s x y e =
    let same = rw (two_digits a x, two_digits b y) at e in
    let high : digit_glyph false (a / 16) ≡ digit_glyph false (b / 16) = cc same in
    let low : digit_glyph false (a % 16) ≡ digit_glyph false (b % 16) = cc same in
    let highs = glyph_same (a / 16) (b / 16) (omega arith) (omega arith) high in
    let lows = glyph_same (a % 16) (b % 16) (omega arith) (omega arith) low in
    (omega (arith, highs, lows), cc same)

-- digits are not nothing
digits_some : (a : ℕ) (r : List ℕ) → a < 256 → byte_digits a ++ r ≢ []
digits_some a r x e = let same = rw (two_digits a x) at e in absurd (cc same)

-- two digits are a code
pub digits_code : IsCode byte_digits
digits_code = record { some = digits_some; apart = digits_apart }

-- how a byte of a text is printed
pub escaped_plain : (b : ℕ) → is_plain b ≡ true → escaped_byte b ≡ b ∷ []
escaped_plain b h = rw h refl

-- a byte that is not printed as it is
pub escaped_other : (b : ℕ) → is_plain b ≡ false → escaped_byte b ≡ 37 ∷ byte_digits b
escaped_other b h = rw h refl

-- `%` is not printed as it is
plain_other : (b : ℕ) → is_plain b ≡ true → b ≢ 37
plain_other b h e = grind (arith, nat_tests)

-- The code of a byte that is escaped.
pub escape : (first b : ℕ) (tail after : List ℕ) → is_plain first ≡ false → first ∷ tail ≡ escaped_byte b ++ after → (first ≡ 37) × (is_plain b ≡ false) × (tail ≡ byte_digits b ++ after)
escape first b tail after other e = by_kind (is_plain b) refl
  where
    by_kind : (p : Bool) → is_plain b ≡ p → (first ≡ 37) × (is_plain b ≡ false) × (tail ≡ byte_digits b ++ after)
    by_kind true h =
        let same = rw (escaped_plain b h) at e in
        let first_is : first ≡ b = cc same in
        absurd (cc (ap is_plain first_is, h, other))
    by_kind false h =
        let same = rw (escaped_other b h) at e in
        (cc same, h, cc same)

-- a code of a byte that is printed as it is
pub no_escape : (first p b : ℕ) (tail after : List ℕ) → is_plain first ≡ false → p < 256 → byte_digits p ≡ get_or tail 0 0 ∷ get_or tail 1 0 ∷ [] → is_plain p ≡ true → b < 256 → first ∷ tail ≢ escaped_byte b ++ after
no_escape first p b tail after other small is plain lt e =
    let parts = escape first b tail after other e in
    let same = digits_apart b p [] [] lt small (ap (λ (t : List ℕ). t ++ []) (pair_is tail after b lt parts.2 ∙ sym is)) in
    absurd (cc (ap is_plain same.0, parts.1, plain))

-- The code of a byte is not empty.
escaped_some : (a : ℕ) (r : List ℕ) → a < 256 → escaped_byte a ++ r ≢ []
escaped_some a r x e = by_kind (is_plain a) refl
  where
    by_kind : (p : Bool) → is_plain a ≡ p → ⊥
    by_kind true h = let same = rw (escaped_plain a h) at e in absurd (cc same)
    by_kind false h = let same = rw (escaped_other a h) at e in absurd (cc same)

-- The code of a byte determines the byte and its end.
escaped_apart : (a b : ℕ) (r s : List ℕ) → a < 256 → b < 256 → escaped_byte a ++ r ≡ escaped_byte b ++ s → (a ≡ b) × (r ≡ s)
escaped_apart a b r s x y e = by_kinds (is_plain a) (is_plain b) refl refl
  where
    by_kinds : (p q : Bool) → is_plain a ≡ p → is_plain b ≡ q → (a ≡ b) × (r ≡ s)
    by_kinds true true h k = let same = rw (escaped_plain a h, escaped_plain b k) at e in (cc same, cc same)
    by_kinds true false h k =
        let same = rw (escaped_plain a h, escaped_other b k) at e in
        let percent : a ≡ 37 = cc same in
        absurd (plain_other a h percent)
    by_kinds false true h k =
        let same = rw (escaped_other a h, escaped_plain b k) at e in
        let percent : b ≡ 37 = cc same in
        absurd (plain_other b k percent)
    by_kinds false false h k =
        let same = rw (escaped_other a h, escaped_other b k) at e in
        let digits : byte_digits a ++ r ≡ byte_digits b ++ s = cc same in
        digits_apart a b r s x y digits

-- The printed form of a byte is a code.
pub escaped_code : IsCode escaped_byte
escaped_code = record { some = escaped_some; apart = escaped_apart }

-- ---- lists of codes

-- The rest consists of codes.
pub record Rest (f : ℕ → List ℕ) (left : List ℕ) : Type 0 where
  pub bytes : List ℕ
  pub are : IsBytes bytes
  pub left_is : left ≡ flat_map f bytes

-- If everything consists of codes, so does the rest behind some of them.
pub rest : (f : ℕ → List ℕ) → IsCode f → (done all left : List ℕ) → IsBytes done → IsBytes all → flat_map f done ++ left ≡ flat_map f all → Rest f left
rest f code [] all left h k e = record { bytes = all; are = k; left_is = e }
rest f code (a ∷ done) [] left h k e = absurd (code.some a (flat_map f done ++ left) (h 0) (sym (append_assoc (f a) (flat_map f done) left) ∙ e))
rest f code (a ∷ done) (b ∷ all) left h k e =
    let same = code.apart a b (flat_map f done ++ left) (flat_map f all) (h 0) (k 0) (sym (append_assoc (f a) (flat_map f done) left) ∙ e) in
    rest f code done all left (λ i. h (suc i)) (λ i. k (suc i)) same.1

-- No code begins the rest, which is not empty.
pub stuck : (f : ℕ → List ℕ) (left : List ℕ) → ((b : ℕ) (after : List ℕ) → b < 256 → left ≢ f b ++ after) → left ≢ [] → ¬ Rest f left
stuck f left none some r = by_bytes r.bytes r.are r.left_is
  where
    by_bytes : (bytes : List ℕ) → IsBytes bytes → left ≡ flat_map f bytes → ⊥
    by_bytes [] h e = some e
    by_bytes (b ∷ bytes) h e = none b (flat_map f bytes) (h 0) e

-- lists with the same codes are the same
pub same_codes : (f : ℕ → List ℕ) → IsCode f → (a b : List ℕ) → IsBytes a → IsBytes b → flat_map f a ≡ flat_map f b → a ≡ b
same_codes f code [] [] h k e = refl
same_codes f code [] (y ∷ b) h k e = absurd (code.some y (flat_map f b) (k 0) (sym e))
same_codes f code (x ∷ a) [] h k e = absurd (code.some x (flat_map f a) (h 0) e)
same_codes f code (x ∷ a) (y ∷ b) h k e =
    let same = code.apart x y (flat_map f a) (flat_map f b) (h 0) (k 0) e in
    let others = same_codes f code a b (λ i. h (suc i)) (λ i. k (suc i)) same.1 in
    cc (same.0, others)
