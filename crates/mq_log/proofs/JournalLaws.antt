-- Proofs of the laws of journals.
use Rattle.std.proofs.Common.{◌≡◌, ◌≢◌, inl, inr, ℕ, ◌+◌, ◌/◌, ◌*◌, ◌%◌, ◌<◌, List, [], ◌∷◌, ◌++◌, length, take, drop, refl, sym, ◌∙◌, ap, arith, length-append, length-take, append_assoc, take-append-drop, get_or-drop, true, if◌then◌else◌, ◌==◌, ◌&&◌, nat_le}
use Rattle.std.proofs.lemmas.Bool.{cases_Bool, and_parts, eqb-true, false≢true}
use Rattle.std.specs.Int.{w32, to_be_bytes}
use Rattle.mq_log.specs.Checksum.{next_sum, sum_from, checksum}
use Rattle.mq_log.specs.Blocks.{body, blocks, entries, rest, entries_within, rest_within, is_block, gate, stored_length, stored_checksum, first_entry, behind}
use Rattle.mq_log.specs.Laws.{AreBytes, JournalLaws}
use Rattle.mq_log.proofs.BlockLemmas.{entries-shut, rest-shut, within}

same_sum : (s t x : ℕ) → s < 4294967296 → t < 4294967296 → next_sum s x ≡ next_sum t x → s ≡ t
same_sum s t x low low2 is = omega (arith, is)

same_byte : (s x y : ℕ) → x < 256 → y < 256 → next_sum s x ≡ next_sum s y → x ≡ y
same_byte s x y low low2 is = omega (arith, is)

same_start : (s t : ℕ) (bytes : List ℕ) → s < 4294967296 → t < 4294967296 → sum_from s bytes ≡ sum_from t bytes → s ≡ t
same_start s t [] low low2 is = is
same_start s t (x ∷ bytes) low low2 is = same_sum s t x low low2 (same_start (next_sum s x) (next_sum t x) bytes (omega arith) (omega arith) is)

differ_by_one : (s : ℕ) (front back : List ℕ) (x y : ℕ) → x < 256 → y < 256 → sum_from s (front ++ x ∷ back) ≡ sum_from s (front ++ y ∷ back) → x ≡ y
differ_by_one s [] back x y low low2 is = same_byte s x y low low2 (same_start (next_sum s x) (next_sum s y) back (omega arith) (omega arith) is)
differ_by_one s (z ∷ front) back x y low low2 is = differ_by_one (next_sum s z) front back x y low low2 is

one_byte : (front back : List ℕ) (x y : ℕ) → x < 256 → y < 256 → x ≢ y → checksum (front ++ x ∷ back) ≢ checksum (front ++ y ∷ back)
one_byte front back x y low low2 other is =
    let same_length : length (front ++ y ∷ back) ≡ length (front ++ x ∷ back) = omega (arith, length-append front (x ∷ back), length-append front (y ∷ back)) in
    other (differ_by_one ((2166136261 + length (front ++ x ∷ back)) % 4294967296) front back x y low low2
    (is ∙ ap (λ (n : ℕ). sum_from ((2166136261 + n) % 4294967296) (front ++ y ∷ back)) same_length))

written : (a b c d n : ℕ) → a < 256 → b < 256 → c < 256 → d < 256 → n ≡ ((a * 256 + b) * 256 + c) * 256 + d
    → to_be_bytes w32 n ≡ a ∷ b ∷ c ∷ d ∷ []
written a b c d n la lb lc ld is =
    let high : n / 16777216 % 256 ≡ a = omega (arith, is) in
    let second : n / 65536 % 256 ≡ b = omega (arith, is) in
    let third : n / 256 % 256 ≡ c = omega (arith, is) in
    let lowest : n % 256 ≡ d = omega (arith, is) in
    ap (λ (k : ℕ). k ∷ n / 65536 % 256 ∷ n / 256 % 256 ∷ n % 256 ∷ []) high
    ∙ ap (λ (k : ℕ). a ∷ k ∷ n / 256 % 256 ∷ n % 256 ∷ []) second
    ∙ ap (λ (k : ℕ). a ∷ b ∷ k ∷ n % 256 ∷ []) third
    ∙ ap (λ (k : ℕ). a ∷ b ∷ c ∷ k ∷ []) lowest

-- the bytes that begin with a block are that block, and then the bytes behind it
block_parts : (bytes : List ℕ) → AreBytes bytes → is_block bytes ≡ true → bytes ≡ 1 ∷ (body (first_entry bytes) ++ behind bytes)
block_parts [] small is = absurd (false≢true is)
block_parts (g ∷ []) small is = absurd (omega (arith, within (g ∷ []) is))
block_parts (g ∷ a ∷ []) small is = absurd (omega (arith, within (g ∷ a ∷ []) is))
block_parts (g ∷ a ∷ b ∷ []) small is = absurd (omega (arith, within (g ∷ a ∷ b ∷ []) is))
block_parts (g ∷ a ∷ b ∷ c ∷ []) small is = absurd (omega (arith, within (g ∷ a ∷ b ∷ c ∷ []) is))
block_parts (g ∷ a ∷ b ∷ c ∷ d ∷ []) small is = absurd (omega (arith, within (g ∷ a ∷ b ∷ c ∷ d ∷ []) is))
block_parts (g ∷ a ∷ b ∷ c ∷ d ∷ e ∷ []) small is = absurd (omega (arith, within (g ∷ a ∷ b ∷ c ∷ d ∷ e ∷ []) is))
block_parts (g ∷ a ∷ b ∷ c ∷ d ∷ e ∷ f ∷ []) small is = absurd (omega (arith, within (g ∷ a ∷ b ∷ c ∷ d ∷ e ∷ f ∷ []) is))
block_parts (g ∷ a ∷ b ∷ c ∷ d ∷ e ∷ f ∷ h ∷ []) small is = absurd (omega (arith, within (g ∷ a ∷ b ∷ c ∷ d ∷ e ∷ f ∷ h ∷ []) is))
block_parts (g ∷ a ∷ b ∷ c ∷ d ∷ e ∷ f ∷ h ∷ i ∷ t) small is =
    let bytes = g ∷ a ∷ b ∷ c ∷ d ∷ e ∷ f ∷ h ∷ i ∷ t in
    let n = stored_length bytes in
    let first = and_parts (gate bytes == 1) (nat_le (9 + n) (length bytes) && checksum (take n t) == stored_checksum bytes) is in
    let second = and_parts (nat_le (9 + n) (length bytes)) (checksum (take n t) == stored_checksum bytes) first.1 in
    let open_gate : g ≡ 1 = eqb-true g 1 first.0 in
    let sum_is : checksum (take n t) ≡ stored_checksum bytes = eqb-true (checksum (take n t)) (stored_checksum bytes) second.1 in
    let length_is : length (take n t) ≡ n = omega (arith, length-take n t, within bytes is) in
    let length_bytes : to_be_bytes w32 (length (take n t)) ≡ a ∷ b ∷ c ∷ d ∷ [] = written a b c d (length (take n t)) (small 1) (small 2) (small 3) (small 4) length_is in
    let sum_bytes : to_be_bytes w32 (checksum (take n t)) ≡ e ∷ f ∷ h ∷ i ∷ [] = written e f h i (checksum (take n t)) (small 5) (small 6) (small 7) (small 8) sum_is in
    ap (λ (k : ℕ). k ∷ a ∷ b ∷ c ∷ d ∷ e ∷ f ∷ h ∷ i ∷ t) open_gate
    ∙ ap (λ (l : List ℕ). 1 ∷ (l ++ (e ∷ f ∷ h ∷ i ∷ t))) (sym length_bytes)
    ∙ ap (λ (l : List ℕ). 1 ∷ (to_be_bytes w32 (length (take n t)) ++ (l ++ t))) (sym sum_bytes)
    ∙ ap (λ (l : List ℕ). 1 ∷ (to_be_bytes w32 (length (take n t)) ++ (to_be_bytes w32 (checksum (take n t)) ++ l))) (sym (take-append-drop n t))

later_bytes : (n m : ℕ) (bytes : List ℕ) → AreBytes bytes → AreBytes (drop n (drop m bytes))
later_bytes n m bytes small i = omega (arith, small (m + (n + i)), get_or-drop n (drop m bytes) i 0, get_or-drop m bytes (n + i) 0)

parts_within : (f bytes : List ℕ) → AreBytes bytes → bytes ≡ blocks (entries_within f bytes) ++ rest_within f bytes
parts_within [] bytes small = refl
parts_within (x ∷ f) bytes small = elim (cases_Bool (is_block bytes)) [
  | inl is ↦
      let next = parts_within f (behind bytes) (later_bytes (stored_length bytes) 9 bytes small) in
      block_parts bytes small is
      ∙ ap (λ (l : List ℕ). 1 ∷ (body (first_entry bytes) ++ l)) next
      ∙ ap (λ (l : List ℕ). 1 ∷ l) (sym (append_assoc (body (first_entry bytes)) (blocks (entries_within f (behind bytes))) (rest_within f (behind bytes))))
      ∙ sym (ap (λ q. blocks (if q then first_entry bytes ∷ entries_within f (behind bytes) else []) ++ (if q then rest_within f (behind bytes) else bytes)) is)
  | inr shut ↦
      sym (ap (λ q. blocks (if q then first_entry bytes ∷ entries_within f (behind bytes) else []) ++ (if q then rest_within f (behind bytes) else bytes)) shut)
]

pub parts : (bytes : List ℕ) → AreBytes bytes → bytes ≡ blocks (entries bytes) ++ rest bytes
parts bytes small = parts_within bytes bytes small

pub laws : JournalLaws
laws = record {
  read_back = λ all short. entries-shut all 0 [] short (λ zero_is. absurd (omega (arith, zero_is)));
  closed = λ all short. rest-shut all 0 [] short (λ zero_is. absurd (omega (arith, zero_is)));
  parts = parts;
  one_byte = one_byte;
}
