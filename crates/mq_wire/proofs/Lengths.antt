-- Remaining lengths: the size of an encoding, and the laws of reading.
use Rattle.std.proofs.Common.{◌≡◌, ℕ, suc, Bool, true, false, ◌+◌, ◌-◌, ◌*◌, ◌/◌, ◌%◌, ◌^◌, ◌<◌, ◌≤◌, List, [], ◌∷◌, ◌++◌, length, take, refl, sym, ap, subst, ◌∙◌, append_assoc, arith, inl, inr}
use Rattle.std.proofs.lemmas.Bool.{cases_lt, cases_eq, lt-ltb, le-ltb, ne_eqb}
use Rattle.std.proofs.lemmas.List.{take_at, length-append}
use Rattle.std.proofs.lemmas.Bool.Decides.{nat_tests}
use Rattle.mq_wire.specs.declared.length_reading.LengthReading.TheVariants.{Whole, Unfinished, TooLong, Overlong}
use Rattle.mq_wire.specs.Length.{Length, LooseLength, LengthUnder, length_bytes}
use Rattle.mq_wire.specs.Bytes.{AreBytes}
use Rattle.mq_wire.specs.Steps.{Continue}
use Rattle.mq_wire.specs.Inside.Value.{value_of}
use Rattle.mq_wire.specs.Reading.{read_length, IsTooLong, IsOverlong, LengthLaws}

pub size_one : (n : ℕ) (b : List ℕ) → n < 128 → Length n b → length b ≡ 1
size_one n [] lt h = absurd h.0
size_one n (a ∷ []) lt h = refl
size_one n (a ∷ b ∷ []) lt h = omega arith
size_one n (a ∷ b ∷ c ∷ []) lt h = omega arith
size_one n (a ∷ b ∷ c ∷ d ∷ []) lt h = omega arith
size_one n (a ∷ b ∷ c ∷ d ∷ e ∷ bs) lt h = absurd (omega arith)

pub size_two : (n : ℕ) (b : List ℕ) → 128 ≤ n → n < 16384 → Length n b → length b ≡ 2
size_two n [] le lt h = absurd h.0
size_two n (a ∷ []) le lt h = omega arith
size_two n (a ∷ b ∷ []) le lt h = refl
size_two n (a ∷ b ∷ c ∷ []) le lt h = omega arith
size_two n (a ∷ b ∷ c ∷ d ∷ []) le lt h = omega arith
size_two n (a ∷ b ∷ c ∷ d ∷ e ∷ bs) le lt h = absurd (omega arith)

pub size_three : (n : ℕ) (b : List ℕ) → 16384 ≤ n → n < 2097152 → Length n b → length b ≡ 3
size_three n [] le lt h = absurd h.0
size_three n (a ∷ []) le lt h = omega arith
size_three n (a ∷ b ∷ []) le lt h = omega arith
size_three n (a ∷ b ∷ c ∷ []) le lt h = refl
size_three n (a ∷ b ∷ c ∷ d ∷ []) le lt h = omega arith
size_three n (a ∷ b ∷ c ∷ d ∷ e ∷ bs) le lt h = absurd (omega arith)

pub size_four : (n : ℕ) (b : List ℕ) → 2097152 ≤ n → Length n b → length b ≡ 4
size_four n [] le h = absurd h.0
size_four n (a ∷ []) le h = omega arith
size_four n (a ∷ b ∷ []) le h = omega arith
size_four n (a ∷ b ∷ c ∷ []) le h = omega arith
size_four n (a ∷ b ∷ c ∷ d ∷ []) le h = refl
size_four n (a ∷ b ∷ c ∷ d ∷ e ∷ bs) le h = absurd (omega arith)

-- ---- a length that a lenient reader reads

loose_of : (lenient : Bool) (n : ℕ) (b : List ℕ) → LengthUnder lenient n b → LooseLength n b
loose_of false n b h = (h.0, h.1)
loose_of true n b h = h

reads : (lenient : Bool) (n : ℕ) (b : List ℕ) → Length n b → LengthUnder lenient n b
reads false n b h = h
reads true n b h = (h.0, h.1)

loose_below : (n : ℕ) (b : List ℕ) → LooseLength n b → n < 2 ^ 28
loose_below n [] h = absurd h.0
loose_below n (a ∷ []) h = omega arith
loose_below n (a ∷ b ∷ []) h = omega arith
loose_below n (a ∷ b ∷ c ∷ []) h = omega arith
loose_below n (a ∷ b ∷ c ∷ d ∷ []) h = omega arith
loose_below n (a ∷ b ∷ c ∷ d ∷ e ∷ bs) h = absurd (omega arith)

below : (lenient : Bool) (n : ℕ) (b : List ℕ) → LengthUnder lenient n b → n < 2 ^ 28
below lenient n b h = loose_below n b (loose_of lenient n b h)

loose_some : (n : ℕ) (b : List ℕ) → LooseLength n b → 0 < length b
loose_some n [] h = absurd h.0
loose_some n (a ∷ bs) h = omega arith

some : (lenient : Bool) (n : ℕ) (b : List ℕ) → LengthUnder lenient n b → 0 < length b
some lenient n b h = loose_some n b (loose_of lenient n b h)

-- ---- each number has a length

pub form_one : (n : ℕ) → n < 128 → Length n (n ∷ [])
form_one n lt = ((lt, refl), omega arith, tt)

pub form_two : (n a b : ℕ) → 128 ≤ a → a < 256 → b < 128 → 0 < b → n ≡ (a - 128) + 128 * b → Length n (a ∷ b ∷ [])
form_two n a b a_on a_byte b_last b_some e = ((a_on, a_byte, b, omega arith, (b_last, refl)), omega arith, b_some)

pub form_three : (n a b c : ℕ) → 128 ≤ a → a < 256 → 128 ≤ b → b < 256 → c < 128 → 0 < c → n ≡ (a - 128) + 128 * (b - 128) + 16384 * c → Length n (a ∷ b ∷ c ∷ [])
form_three n a b c a_on a_byte b_on b_byte c_last c_some e =
    ((a_on, a_byte, (b - 128) + 128 * c, omega arith, (b_on, b_byte, c, omega arith, (c_last, refl))), omega arith, c_some)

pub form_four : (n a b c d : ℕ) → 128 ≤ a → a < 256 → 128 ≤ b → b < 256 → 128 ≤ c → c < 256 → d < 128 → 0 < d
    → n ≡ (a - 128) + 128 * (b - 128) + 16384 * (c - 128) + 2097152 * d → Length n (a ∷ b ∷ c ∷ d ∷ [])
form_four n a b c d a_on a_byte b_on b_byte c_on c_byte d_last d_some e =
    ((a_on, a_byte, (b - 128) + 128 * (c - 128) + 16384 * d, omega arith, (b_on, b_byte, (c - 128) + 128 * d, omega arith, (c_on, c_byte, d, omega arith, (d_last, refl)))), omega arith, d_some)

-- An encoding of two bytes whose last byte may be 0.
loose_two : (n a b : ℕ) → 128 ≤ a → a < 256 → b < 128 → n ≡ (a - 128) + 128 * b → LooseLength n (a ∷ b ∷ [])
loose_two n a b a_on a_byte b_last e = ((a_on, a_byte, b, omega arith, (b_last, refl)), omega arith)

loose_three : (n a b c : ℕ) → 128 ≤ a → a < 256 → 128 ≤ b → b < 256 → c < 128 → n ≡ (a - 128) + 128 * (b - 128) + 16384 * c → LooseLength n (a ∷ b ∷ c ∷ [])
loose_three n a b c a_on a_byte b_on b_byte c_last e =
    ((a_on, a_byte, (b - 128) + 128 * c, omega arith, (b_on, b_byte, c, omega arith, (c_last, refl))), omega arith)

loose_four : (n a b c d : ℕ) → 128 ≤ a → a < 256 → 128 ≤ b → b < 256 → 128 ≤ c → c < 256 → d < 128
    → n ≡ (a - 128) + 128 * (b - 128) + 16384 * (c - 128) + 2097152 * d → LooseLength n (a ∷ b ∷ c ∷ d ∷ [])
loose_four n a b c d a_on a_byte b_on b_byte c_on c_byte d_last e =
    ((a_on, a_byte, (b - 128) + 128 * (c - 128) + 16384 * d, omega arith, (b_on, b_byte, (c - 128) + 128 * d, omega arith, (c_on, c_byte, d, omega arith, (d_last, refl)))), omega arith)

exists : (n : ℕ) → n < 2 ^ 28 → Length n (length_bytes n)
unfolding length_bytes
exists n lt =
    elim (cases_lt n 128) [
      | inl one ↦ rw (lt-ltb n 128 one) (form_one n one)
      | inr two ↦ elim (cases_lt n 16384) [
        | inl lt2 ↦ rw (le-ltb n 128 two, lt-ltb n 16384 lt2) (form_two n (128 + n % 128) (n / 128) (omega arith) (omega arith) (omega arith) (omega arith) (omega arith))
        | inr three ↦ elim (cases_lt n 2097152) [
          | inl lt3 ↦ rw (le-ltb n 128 two, le-ltb n 16384 three, lt-ltb n 2097152 lt3)
              (form_three n (128 + n % 128) (128 + n / 128 % 128) (n / 16384) (omega arith) (omega arith) (omega arith) (omega arith) (omega arith) (omega arith) (omega arith))
          | inr four ↦ rw (le-ltb n 128 two, le-ltb n 16384 three, le-ltb n 2097152 four)
              (form_four n (128 + n % 128) (128 + n / 128 % 128) (128 + n / 16384 % 128) (n / 2097152) (omega arith) (omega arith) (omega arith) (omega arith) (omega arith) (omega arith) (omega arith) (omega arith) (omega arith))
        ]
      ]
    ]

one : (n : ℕ) (b : List ℕ) → Length n b → b ≡ length_bytes n
unfolding length_bytes
one n [] h = absurd h.0
one n (a ∷ []) h =
    let small : n < 128 = omega arith in
    rw (lt-ltb n 128 small, h.0.1) refl
one n (a ∷ b ∷ []) h =
    let over : 128 ≤ n = omega arith in
    let small : n < 16384 = omega arith in
    let low : a ≡ 128 + n % 128 = omega arith in
    let high : b ≡ n / 128 = omega arith in
    rw (le-ltb n 128 over, lt-ltb n 16384 small, low, high) refl
one n (a ∷ b ∷ c ∷ []) h =
    let over1 : 128 ≤ n = omega arith in
    let over : 16384 ≤ n = omega arith in
    let small : n < 2097152 = omega arith in
    let low : a ≡ 128 + n % 128 = omega arith in
    let mid : b ≡ 128 + n / 128 % 128 = omega arith in
    let high : c ≡ n / 16384 = omega arith in
    rw (le-ltb n 128 over1, le-ltb n 16384 over, lt-ltb n 2097152 small, low, mid, high) refl
one n (a ∷ b ∷ c ∷ d ∷ []) h =
    let over1 : 128 ≤ n = omega arith in
    let over2 : 16384 ≤ n = omega arith in
    let over : 2097152 ≤ n = omega arith in
    let low : a ≡ 128 + n % 128 = omega arith in
    let mid : b ≡ 128 + n / 128 % 128 = omega arith in
    let next : c ≡ 128 + n / 16384 % 128 = omega arith in
    let high : d ≡ n / 2097152 = omega arith in
    rw (le-ltb n 128 over1, le-ltb n 16384 over2, le-ltb n 2097152 over, low, mid, next, high) refl
one n (a ∷ b ∷ c ∷ d ∷ e ∷ bs) h = absurd (omega arith)

-- ---- an encoding is read back

strict_again : (n : ℕ) (b rest : List ℕ) → Length n b → read_length false (b ++ rest) ≡ Whole n (length b)
unfolding read_length
strict_again n [] rest h = absurd h.0
strict_again n (a ∷ []) rest h = rw (lt-ltb a 128 h.0.0, h.0.1) refl
strict_again n (a ∷ b ∷ []) rest h = grind (arith, nat_tests)
strict_again n (a ∷ b ∷ c ∷ []) rest h = grind (arith, nat_tests)
strict_again n (a ∷ b ∷ c ∷ d ∷ []) rest h =
    let a_on : 128 ≤ a = omega arith in
    let b_on : 128 ≤ b = omega arith in
    let c_on : 128 ≤ c = omega arith in
    let d_last : d < 128 = omega arith in
    let d_some : d ≡ 0 → ⊥ = λ e. absurd (omega arith) in
    let n_is : a - 128 + 128 * (b - 128) + 16384 * (c - 128) + 2097152 * d ≡ n = omega arith in
    rw (le-ltb a 128 a_on, le-ltb b 128 b_on, le-ltb c 128 c_on, lt-ltb d 128 d_last, ne_eqb d 0 d_some, n_is) refl
strict_again n (a ∷ b ∷ c ∷ d ∷ e ∷ bs) rest h = absurd (omega arith)

loose_again : (n : ℕ) (b rest : List ℕ) → LooseLength n b → read_length true (b ++ rest) ≡ Whole n (length b)
unfolding read_length
loose_again n [] rest h = absurd h.0
loose_again n (a ∷ []) rest h = rw (lt-ltb a 128 h.0.0, h.0.1) refl
loose_again n (a ∷ b ∷ []) rest h =
    let a_on : 128 ≤ a = omega arith in
    let b_last : b < 128 = omega arith in
    let n_is : a - 128 + 128 * b ≡ n = omega arith in
    rw (le-ltb a 128 a_on, lt-ltb b 128 b_last, n_is) refl
loose_again n (a ∷ b ∷ c ∷ []) rest h =
    let a_on : 128 ≤ a = omega arith in
    let b_on : 128 ≤ b = omega arith in
    let c_last : c < 128 = omega arith in
    let n_is : a - 128 + 128 * (b - 128) + 16384 * c ≡ n = omega arith in
    rw (le-ltb a 128 a_on, le-ltb b 128 b_on, lt-ltb c 128 c_last, n_is) refl
loose_again n (a ∷ b ∷ c ∷ d ∷ []) rest h =
    let a_on : 128 ≤ a = omega arith in
    let b_on : 128 ≤ b = omega arith in
    let c_on : 128 ≤ c = omega arith in
    let d_last : d < 128 = omega arith in
    let n_is : a - 128 + 128 * (b - 128) + 16384 * (c - 128) + 2097152 * d ≡ n = omega arith in
    rw (le-ltb a 128 a_on, le-ltb b 128 b_on, le-ltb c 128 c_on, lt-ltb d 128 d_last, n_is) refl
loose_again n (a ∷ b ∷ c ∷ d ∷ e ∷ bs) rest h = absurd (omega arith)

again : (lenient : Bool) (n : ℕ) (b rest : List ℕ) → LengthUnder lenient n b → read_length lenient (b ++ rest) ≡ Whole n (length b)
again false n b rest h = strict_again n b rest h
again true n b rest h = loose_again n b rest h

four_on : (lenient : Bool) (digits rest : List ℕ) → Continue digits → length digits ≡ 4 → read_length lenient (digits ++ rest) ≡ TooLong
unfolding read_length
four_on lenient [] rest on four = absurd (omega arith)
four_on lenient (a ∷ []) rest on four = absurd (omega arith)
four_on lenient (a ∷ b ∷ []) rest on four = absurd (omega arith)
four_on lenient (a ∷ b ∷ c ∷ []) rest on four = absurd (omega arith)
four_on lenient (a ∷ b ∷ c ∷ d ∷ []) rest on four =
    let a_on : 128 ≤ a = on.0 in
    let b_on : 128 ≤ b = on.2.0 in
    let c_on : 128 ≤ c = on.2.2.0 in
    let d_on : 128 ≤ d = on.2.2.2.0 in
    rw (le-ltb a 128 a_on, le-ltb b 128 b_on, le-ltb c 128 c_on, le-ltb d 128 d_on) refl
four_on lenient (a ∷ b ∷ c ∷ d ∷ e ∷ bs) rest on four = absurd (omega arith)

too_long_again : (lenient : Bool) (b : List ℕ) → IsTooLong b → read_length lenient b ≡ TooLong
too_long_again lenient b h = rw h.parts (four_on lenient h.digits h.rest h.following h.four)

then_zero : (digits rest : List ℕ) → Continue digits → 0 < length digits → length digits ≤ 3 → read_length false (digits ++ (0 ∷ rest)) ≡ Overlong (length digits + 1)
unfolding read_length
then_zero [] rest on some three = absurd (omega arith)
then_zero (a ∷ []) rest on some three =
    let a_on : 128 ≤ a = on.0 in
    rw (le-ltb a 128 a_on) refl
then_zero (a ∷ b ∷ []) rest on some three =
    let a_on : 128 ≤ a = on.0 in
    let b_on : 128 ≤ b = on.2.0 in
    rw (le-ltb a 128 a_on, le-ltb b 128 b_on) refl
then_zero (a ∷ b ∷ c ∷ []) rest on some three =
    let a_on : 128 ≤ a = on.0 in
    let b_on : 128 ≤ b = on.2.0 in
    let c_on : 128 ≤ c = on.2.2.0 in
    rw (le-ltb a 128 a_on, le-ltb b 128 b_on, le-ltb c 128 c_on) refl
then_zero (a ∷ b ∷ c ∷ d ∷ bs) rest on some three = absurd (omega arith)

overlong_again : (b : List ℕ) (size : ℕ) → IsOverlong b size → read_length false b ≡ Overlong size
overlong_again b size h = rw (h.parts, h.counted) (then_zero h.digits h.rest h.following h.some h.three)

unfinished_again : (lenient : Bool) (b : List ℕ) → Continue b → length b < 4 → read_length lenient b ≡ Unfinished
unfolding read_length
unfinished_again lenient [] on short = refl
unfinished_again lenient (a ∷ []) on short =
    let a_on : 128 ≤ a = on.0 in
    rw (le-ltb a 128 a_on) refl
unfinished_again lenient (a ∷ b ∷ []) on short =
    let a_on : 128 ≤ a = on.0 in
    let b_on : 128 ≤ b = on.2.0 in
    rw (le-ltb a 128 a_on, le-ltb b 128 b_on) refl
unfinished_again lenient (a ∷ b ∷ c ∷ []) on short =
    let a_on : 128 ≤ a = on.0 in
    let b_on : 128 ≤ b = on.2.0 in
    let c_on : 128 ≤ c = on.2.2.0 in
    rw (le-ltb a 128 a_on, le-ltb b 128 b_on, le-ltb c 128 c_on) refl
unfinished_again lenient (a ∷ b ∷ c ∷ d ∷ bs) on short = absurd (omega arith)

-- ---- every list of bytes is one of four things

data Front (lenient : Bool) (b : List ℕ) : Type 0 where
  IsWhole : (n : ℕ) (digits rest : List ℕ) → LengthUnder lenient n digits → b ≡ digits ++ rest → Front lenient b
  IsShort : Continue b → length b < 4 → Front lenient b
  IsLong : IsTooLong b → Front lenient b
  IsWide : (size : ℕ) → lenient ≡ false → IsOverlong b size → Front lenient b

-- A last byte of 0 after others.
zero_last : (lenient : Bool) (n : ℕ) (digits rest : List ℕ) → Continue digits → 0 < length digits → length digits ≤ 3 → LooseLength n (digits ++ 0 ∷ []) → Front lenient (digits ++ 0 ∷ rest)
zero_last false n digits rest on some three loose =
    IsWide (length digits + 1) refl (record { digits = digits; rest = rest; parts = refl; following = on; some = some; three = three; counted = refl })
zero_last true n digits rest on some three loose = IsWhole n (digits ++ 0 ∷ []) rest loose (sym (append_assoc digits (0 ∷ []) rest))

front_four : (lenient : Bool) (a b c : ℕ) (rest : List ℕ) → Continue (a ∷ b ∷ c ∷ []) → AreBytes rest → Front lenient (a ∷ b ∷ c ∷ rest)
front_four lenient a b c [] on bytes = IsShort on (omega arith)
front_four lenient a b c (d ∷ rest) on bytes =
    elim (cases_lt d 128) [
      | inl lt ↦ elim (cases_eq d 0) [
        | inl e ↦ subst (λ (z : ℕ). Front lenient (a ∷ b ∷ c ∷ z ∷ rest)) (sym e)
            (zero_last lenient (a - 128 + 128 * (b - 128) + 16384 * (c - 128) + 2097152 * 0) (a ∷ b ∷ c ∷ []) rest on (omega arith) (omega arith)
            (loose_four _ a b c 0 on.0 on.1 on.2.0 on.2.1 on.2.2.0 on.2.2.1 (omega arith) refl))
        | inr ne ↦ IsWhole (a - 128 + 128 * (b - 128) + 16384 * (c - 128) + 2097152 * d) (a ∷ b ∷ c ∷ d ∷ []) rest
            (reads lenient _ _ (form_four _ a b c d on.0 on.1 on.2.0 on.2.1 on.2.2.0 on.2.2.1 lt (omega arith) refl)) refl
      ]
      | inr le ↦ IsLong (record { digits = a ∷ b ∷ c ∷ d ∷ []; rest = rest; parts = refl; following = (on.0, on.1, (on.2.0, on.2.1, (on.2.2.0, on.2.2.1, (le, bytes 0, tt)))); four = refl })
    ]

front_three : (lenient : Bool) (a b : ℕ) (rest : List ℕ) → Continue (a ∷ b ∷ []) → AreBytes rest → Front lenient (a ∷ b ∷ rest)
front_three lenient a b [] on bytes = IsShort on (omega arith)
front_three lenient a b (c ∷ rest) on bytes =
    elim (cases_lt c 128) [
      | inl lt ↦ elim (cases_eq c 0) [
        | inl e ↦ subst (λ (z : ℕ). Front lenient (a ∷ b ∷ z ∷ rest)) (sym e)
            (zero_last lenient (a - 128 + 128 * (b - 128) + 16384 * 0) (a ∷ b ∷ []) rest on (omega arith) (omega arith) (loose_three _ a b 0 on.0 on.1 on.2.0 on.2.1 (omega arith) refl))
        | inr ne ↦ IsWhole (a - 128 + 128 * (b - 128) + 16384 * c) (a ∷ b ∷ c ∷ []) rest (reads lenient _ _ (form_three _ a b c on.0 on.1 on.2.0 on.2.1 lt (omega arith) refl)) refl
      ]
      | inr le ↦ front_four lenient a b c rest (on.0, on.1, (on.2.0, on.2.1, (le, bytes 0, tt))) (λ i. bytes (suc i))
    ]

front_two : (lenient : Bool) (a : ℕ) (rest : List ℕ) → Continue (a ∷ []) → AreBytes rest → Front lenient (a ∷ rest)
front_two lenient a [] on bytes = IsShort on (omega arith)
front_two lenient a (b ∷ rest) on bytes =
    elim (cases_lt b 128) [
      | inl lt ↦ elim (cases_eq b 0) [
        | inl e ↦ subst (λ (z : ℕ). Front lenient (a ∷ z ∷ rest)) (sym e)
            (zero_last lenient (a - 128 + 128 * 0) (a ∷ []) rest on (omega arith) (omega arith) (loose_two _ a 0 on.0 on.1 (omega arith) refl))
        | inr ne ↦ IsWhole (a - 128 + 128 * b) (a ∷ b ∷ []) rest (reads lenient _ _ (form_two _ a b on.0 on.1 lt (omega arith) refl)) refl
      ]
      | inr le ↦ front_three lenient a b rest (on.0, on.1, (le, bytes 0, tt)) (λ i. bytes (suc i))
    ]

front_cases : (lenient : Bool) (b : List ℕ) → AreBytes b → Front lenient b
front_cases lenient [] bytes = IsShort tt (omega arith)
front_cases lenient (a ∷ rest) bytes =
    elim (cases_lt a 128) [
      | inl lt ↦ IsWhole a (a ∷ []) rest (reads lenient _ _ (form_one a lt)) refl
      | inr le ↦ front_two lenient a rest (le, bytes 0, tt) (λ i. bytes (suc i))
    ]

-- ---- a length that is read is an encoding

whole_is : {n m i j : ℕ} → Whole n i ≡ Whole m j → (n ≡ m) × (i ≡ j)
whole_is e = (cc, cc)

wide_is : {i j : ℕ} → Overlong i ≡ Overlong j → i ≡ j
wide_is e = cc

-- An overlong encoding is read as one.
wide_again : (lenient : Bool) (b : List ℕ) (size : ℕ) → lenient ≡ false → IsOverlong b size → read_length lenient b ≡ Overlong size
wide_again lenient b size strict h = rw strict (overlong_again b size h)

found : (lenient : Bool) (b : List ℕ) (n size : ℕ) → AreBytes b → read_length lenient b ≡ Whole n size → (size ≤ length b) × LengthUnder lenient n (take size b)
found lenient b n size bytes e =
    elim (front_cases lenient b bytes) [
      | IsWhole m digits rest h parts ↦
          let same = whole_is (sym (again lenient m digits rest h) ∙ (ap (read_length lenient) (sym parts) ∙ e)) in
          let front : take size b ≡ digits = rw (parts, ← same.1) (take_at digits rest (length digits) refl) in
          (rw parts (omega (arith, length-append digits rest, same.1)), rw (front, ← same.0) h)
      | IsShort on short ↦ absurd (short_not (sym (unfinished_again lenient b on short) ∙ e))
      | IsLong h ↦ absurd (long_not (sym (too_long_again lenient b h) ∙ e))
      | IsWide i strict h ↦ absurd (wide_not (sym (wide_again lenient b i strict h) ∙ e))
    ]
  where
    short_not : Unfinished ≡ Whole n size → ⊥
    short_not e = cc

    long_not : TooLong ≡ Whole n size → ⊥
    long_not e = cc

    wide_not : {i : ℕ} → Overlong i ≡ Whole n size → ⊥
    wide_not e = cc

too_long_found : (lenient : Bool) (b : List ℕ) → AreBytes b → read_length lenient b ≡ TooLong → IsTooLong b
too_long_found lenient b bytes e =
    elim (front_cases lenient b bytes) [
      | IsWhole m digits rest h parts ↦ let bad : Whole m (length digits) ≡ TooLong = sym (again lenient m digits rest h) ∙ (ap (read_length lenient) (sym parts) ∙ e) in absurd cc
      | IsShort on short ↦ let bad : Unfinished ≡ TooLong = sym (unfinished_again lenient b on short) ∙ e in absurd cc
      | IsLong h ↦ h
      | IsWide i strict h ↦ let bad : Overlong i ≡ TooLong = sym (wide_again lenient b i strict h) ∙ e in absurd cc
    ]

overlong_found : (lenient : Bool) (b : List ℕ) (size : ℕ) → AreBytes b → read_length lenient b ≡ Overlong size → (lenient ≡ false) × IsOverlong b size
overlong_found lenient b size bytes e =
    elim (front_cases lenient b bytes) [
      | IsWhole m digits rest h parts ↦ let bad : Whole m (length digits) ≡ Overlong size = sym (again lenient m digits rest h) ∙ (ap (read_length lenient) (sym parts) ∙ e) in absurd cc
      | IsShort on short ↦ let bad : Unfinished ≡ Overlong size = sym (unfinished_again lenient b on short) ∙ e in absurd cc
      | IsLong h ↦ let bad : TooLong ≡ Overlong size = sym (too_long_again lenient b h) ∙ e in absurd cc
      | IsWide i strict h ↦ let same : Overlong i ≡ Overlong size = sym (wide_again lenient b i strict h) ∙ e in (strict, subst (λ (k : ℕ). IsOverlong b k) (wide_is same) h)
    ]

unfinished : (lenient : Bool) (b : List ℕ) → AreBytes b → read_length lenient b ≡ Unfinished → length b < 4
unfinished lenient b bytes e =
    elim (front_cases lenient b bytes) [
      | IsWhole m digits rest h parts ↦ let bad : Whole m (length digits) ≡ Unfinished = sym (again lenient m digits rest h) ∙ (ap (read_length lenient) (sym parts) ∙ e) in absurd cc
      | IsShort on short ↦ short
      | IsLong h ↦ let bad : TooLong ≡ Unfinished = sym (too_long_again lenient b h) ∙ e in absurd cc
      | IsWide i strict h ↦ let bad : Overlong i ≡ Unfinished = sym (wide_again lenient b i strict h) ∙ e in absurd cc
    ]

pub laws : LengthLaws
laws = record {
  exists = exists;
  one = one;
  below = below;
  some = some;
  reads = reads;
  again = again;
  too_long_again = too_long_again;
  overlong_again = overlong_again;
  found = found;
  too_long_found = too_long_found;
  overlong_found = overlong_found;
  unfinished = unfinished;
}

-- ---- byte by byte

strict_value : (before : List ℕ) (byte : ℕ) → Continue before → length before < 4 → byte < 128 → (0 < length before → 0 < byte) → Length (value_of before byte) (before ++ byte ∷ [])
strict_value [] byte on short last more = form_one byte last
strict_value (a ∷ []) byte on short last more = form_two _ a byte on.0 on.1 last (omega arith) (omega arith)
strict_value (a ∷ b ∷ []) byte on short last more = form_three _ a b byte on.0 on.1 on.2.0 on.2.1 last (omega arith) (omega arith)
strict_value (a ∷ b ∷ c ∷ []) byte on short last more = form_four _ a b c byte on.0 on.1 on.2.0 on.2.1 on.2.2.0 on.2.2.1 last (omega arith) (omega arith)
strict_value (a ∷ b ∷ c ∷ d ∷ rest) byte on short last more = absurd (omega arith)

loose_value : (before : List ℕ) (byte : ℕ) → Continue before → length before < 4 → byte < 128 → LooseLength (value_of before byte) (before ++ byte ∷ [])
loose_value [] byte on short last = ((last, refl), omega arith)
loose_value (a ∷ []) byte on short last = loose_two _ a byte on.0 on.1 last (omega arith)
loose_value (a ∷ b ∷ []) byte on short last = loose_three _ a b byte on.0 on.1 on.2.0 on.2.1 last (omega arith)
loose_value (a ∷ b ∷ c ∷ []) byte on short last = loose_four _ a b c byte on.0 on.1 on.2.0 on.2.1 on.2.2.0 on.2.2.1 last (omega arith)
loose_value (a ∷ b ∷ c ∷ d ∷ rest) byte on short last = absurd (omega arith)

pub value_is : (lenient : Bool) (before : List ℕ) (byte : ℕ) → Continue before → length before < 4 → byte < 128 → (lenient ≡ false → 0 < length before → 0 < byte) → LengthUnder lenient (value_of before byte) (before ++ byte ∷ [])
value_is false before byte on short last more = strict_value before byte on short last (more refl)
value_is true before byte on short last more = loose_value before byte on short last

pub continue_push : (before : List ℕ) (byte : ℕ) → Continue before → 128 ≤ byte → byte < 256 → Continue (before ++ byte ∷ [])
continue_push [] byte on le lt = (le, lt, tt)
continue_push (b ∷ bs) byte on le lt = (on.0, on.1, continue_push bs byte on.2 le lt)
