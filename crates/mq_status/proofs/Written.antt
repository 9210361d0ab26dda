-- A line that is written reads as its name, and the digest of its salt and password.
use Rattle.std.proofs.Common.{◌≡◌, ℕ, zero, suc, ◌+◌, ◌*◌, ◌/◌, ◌%◌, ◌<◌, Bool, true, false, ◌==◌, ◌&&◌, not, nat_le, List, [], ◌∷◌, ◌++◌, length, take, drop, slice_index, codes, refl, ap, ◌∙◌, arith, Some, None, Result, Ok, Err}
use Rattle.std.specs.Prelude.{if◌then◌else◌}
use Rattle.std.specs.List.{before_first, after_first, position_or_len, list_all}
use Rattle.std.specs.Int.{w32, bytes_high_first, to_be_bytes}
use Rattle.std.specs.Str.{bytes_eq}
use Rattle.std.specs.Result.{result_ok}
use Rattle.std.proofs.lemmas.Bool.{and_parts}
use Rattle.std.proofs.lemmas.Bool.Decides.{nat_tests}
use Rattle.std.proofs.lemmas.List.{length-append}
use Rattle.hex.specs.Hex.{IsBytes, decode_sized, encode_lower, lower_digits}
use Rattle.hex.specs.declared.error.FromHexError.{FromHexError}
use Rattle.hex.proofs.HexLemmas.{decode_pairs-encode_with, length-encode_with, IsDigits-lower_digits}
use Rattle.sha2.specs.Sha256.{sha256, digest_bytes}
use Rattle.sha2.proofs.Facts256.{length-sha256}
use Rattle.mq_wire.specs.Text.{has_nul}
use Rattle.mq_status.specs.Passwords.{entry_of, field_in, fits, has_colon, hash_in, hash_of, is_colon, is_field, is_field_byte, is_name, is_skipped, line_gives, name_in, password_line, plain_of, some_of, stored_in, written}
use Rattle.mq_status.specs.declared.passwords.PasswordFault.{PasswordFault}
use Rattle.mq_status.specs.declared.passwords.PasswordFault.TheVariants.{NoColon, NoName, NotHash, NotText, TooLong}
use Rattle.mq_status.specs.declared.passwords.Stored.{Stored}

-- ---- a field before a colon

not_colon : (byte : ℕ) → is_field_byte byte ≡ true → is_colon byte ≡ false
not_colon byte h = not_true (is_colon byte) (and_parts (nat_le 32 byte) (not (is_colon byte)) h).1
  where
    not_true : (b : Bool) → not b ≡ true → b ≡ false
    not_true true h = cc
    not_true false h = refl

-- the first colon behind a field is the one that follows it
place : (field rest : List ℕ) → list_all is_field_byte field ≡ true
    → position_or_len is_colon (field ++ 58 ∷ rest) ≡ length field
place [] rest h = refl
place (byte ∷ field) rest h =
    let parts = and_parts (is_field_byte byte) (list_all is_field_byte field) h in
    let off = not_colon byte parts.0 in
    let more : position_or_len is_colon (field ++ 58 ∷ rest) ≡ length field = place field rest parts.1 in
    rw (off, more) (grind (arith, nat_tests))

before : (field rest : List ℕ) → list_all is_field_byte field ≡ true
    → before_first is_colon (field ++ 58 ∷ rest) ≡ field
before field rest h = rw (place field rest h) (taken field (58 ∷ rest))
  where
    taken : (xs ys : List ℕ) → take (length xs) (xs ++ ys) ≡ xs
    taken [] ys = refl
    taken (x ∷ xs) ys = ap (λ (l : List ℕ). x ∷ l) (taken xs ys)

after : (field rest : List ℕ) → list_all is_field_byte field ≡ true
    → after_first is_colon (field ++ 58 ∷ rest) ≡ rest
after field rest h =
    let next : length field + 1 ≡ suc (length field) = omega arith in
    rw (place field rest h, next) (dropped field rest)
  where
    dropped : (xs ys : List ℕ) → drop (suc (length xs)) (xs ++ 58 ∷ ys) ≡ ys
    dropped [] ys = refl
    dropped (x ∷ xs) ys = dropped xs ys

colon : (field rest : List ℕ) → list_all is_field_byte field ≡ true → has_colon (field ++ 58 ∷ rest) ≡ true
colon field rest h =
    let size = length-append field (58 ∷ rest) in
    rw (place field rest h, size) (grind (arith, nat_tests))

-- ---- the digest

high_bytes : (k n i : ℕ) → slice_index (bytes_high_first k n) i < 256
high_bytes zero n i = omega arith
high_bytes (suc zero) n zero = omega arith
high_bytes (suc (suc k)) n zero = omega arith
high_bytes (suc k) n (suc i) = high_bytes k n i

joined : (xs ys : List ℕ) → IsBytes xs → IsBytes ys → IsBytes (xs ++ ys)
joined [] ys left right = right
joined (x ∷ xs) ys left right = more x (xs ++ ys) (left 0) (joined xs ys (λ k. left (suc k)) right)
  where
    more : (x : ℕ) (xs : List ℕ) → x < 256 → IsBytes xs → IsBytes (x ∷ xs)
    more x xs first others zero = first
    more x xs first others (suc i) = others i

digest_is_bytes : (h : List ℕ) (n : ℕ) → IsBytes (digest_bytes h n)
unfolding digest_bytes
digest_is_bytes h zero = λ i. omega arith
digest_is_bytes h (suc n) = joined (digest_bytes h n) (to_be_bytes w32 (slice_index h n)) (digest_is_bytes h n) (high_bytes 4 (slice_index h n))

bytes_of_sha256 : (m : List ℕ) → IsBytes (sha256 m)
unfolding sha256
bytes_of_sha256 m = digest_is_bytes _ 8

-- the digits of a digest read as the digest
digits : (m : List ℕ) → decode_sized (encode_lower (sha256 m)) 32 ≡ Ok (sha256 m)
digits m =
    let size : length (encode_lower (sha256 m)) ≡ 64 =
    length-encode_with lower_digits (sha256 m) ∙ ap (λ (n : ℕ). 2 * n) (length-sha256 m) in
    let odd : (length (encode_lower (sha256 m)) % 2 == 1) ≡ false = ap (λ (n : ℕ). n % 2 == 1) size in
    let half : (length (encode_lower (sha256 m)) / 2 == 32) ≡ true = ap (λ (n : ℕ). n / 2 == 32) size in
    rw (odd, half) (decode_pairs-encode_with lower_digits IsDigits-lower_digits 0 (sha256 m) (bytes_of_sha256 m))

-- ---- the line

no_nul : (text : List ℕ) → list_all is_field_byte text ≡ true → has_nul text ≡ false
no_nul [] h = refl
no_nul (byte ∷ text) h =
    let parts = and_parts (is_field_byte byte) (list_all is_field_byte text) h in
    let low = (and_parts (nat_le 32 byte) (not (is_colon byte)) parts.0).0 in
    let off : (byte == 0) ≡ false = grind (arith, nat_tests) in
    rw off (no_nul text parts.1)

-- the digits of a salt and a password
abbrev hex : List ℕ → List ℕ → List ℕ
hex salt password = encode_lower (sha256 (salt ++ password))

hash_read : (salt password : List ℕ) → fits salt ≡ true → list_all is_field_byte salt ≡ true
    → hash_in (salt ++ 58 ∷ hex salt password) ≡ Ok (written salt password)
hash_read salt password short bytes =
    let text : List ℕ = salt ++ 58 ∷ hex salt password in
    let has : has_colon text ≡ true = colon salt (hex salt password) bytes in
    let first : before_first is_colon text ≡ salt = before salt (hex salt password) bytes in
    let rest : after_first is_colon text ≡ hex salt password = after salt (hex salt password) bytes in
    ap (λ (t : Bool). if t then hash_of (field_in (before_first is_colon text)) (result_ok (decode_sized (after_first is_colon text) 32)) else Err NotHash) has
    ∙ ap (λ (t : List ℕ). hash_of (field_in t) (result_ok (decode_sized (after_first is_colon text) 32))) first
    ∙ ap (λ (t : List ℕ). hash_of (field_in salt) (result_ok (decode_sized t 32))) rest
    ∙ ap (λ (r : Result (List ℕ) FromHexError). hash_of (field_in salt) (result_ok r)) (digits (salt ++ password))
    ∙ ap (λ (t : Bool). hash_of (if t then Ok salt else Err TooLong) (Some (sha256 (salt ++ password)))) short

stored_read : (salt password : List ℕ) → fits salt ≡ true → list_all is_field_byte salt ≡ true
    → stored_in (codes "sha256" ++ 58 ∷ (salt ++ 58 ∷ hex salt password)) ≡ Ok (written salt password)
stored_read salt password short bytes =
    let tail : List ℕ = salt ++ 58 ∷ hex salt password in
    let text : List ℕ = codes "sha256" ++ 58 ∷ tail in
    let has : has_colon text ≡ true = colon (codes "sha256") tail refl in
    let first : before_first is_colon text ≡ codes "sha256" = before (codes "sha256") tail refl in
    let rest : after_first is_colon text ≡ tail = after (codes "sha256") tail refl in
    ap (λ (t : Bool). if t && bytes_eq (before_first is_colon text) (codes "sha256") then hash_in (after_first is_colon text) else plain_of (field_in text)) has
    ∙ ap (λ (t : List ℕ). if bytes_eq t (codes "sha256") then hash_in (after_first is_colon text) else plain_of (field_in text)) first
    ∙ ap hash_in rest
    ∙ hash_read salt password short bytes

name_read : (x : ℕ) (xs : List ℕ) → fits (x ∷ xs) ≡ true → list_all is_field_byte (x ∷ xs) ≡ true → name_in (x ∷ xs) ≡ Ok (x ∷ xs)
name_read x xs short bytes =
    let some : (length (x ∷ xs) == 0) ≡ false = grind (arith, nat_tests) in
    ap (λ (t : Bool). if t then Err NoName else if fits (x ∷ xs) && not (has_nul (x ∷ xs)) then Ok (x ∷ xs) else Err NotText) some
    ∙ ap (λ (t : Bool). if t && not (has_nul (x ∷ xs)) then Ok (x ∷ xs) else Err NotText) short
    ∙ ap (λ (t : Bool). if not t then Ok (x ∷ xs) else Err NotText) (no_nul (x ∷ xs) bytes)

not_skipped : (x : ℕ) (xs rest : List ℕ) → not (is_skipped (x ∷ xs)) ≡ true → is_skipped (x ∷ (xs ++ rest)) ≡ false
not_skipped x xs rest h = grind (arith, nat_tests)

pub reads : (number : ℕ) (name salt password : List ℕ) → is_name name ≡ true → is_field salt ≡ true
    → line_gives number (password_line name salt password)
    ≡ Ok (Some (record { line = number; name = name; stored = written salt password }))
reads number [] salt password named salted = cc
reads number (x ∷ xs) salt password named salted =
    let halves = and_parts (not (is_skipped (x ∷ xs))) (is_field (x ∷ xs)) named in
    let name_parts = and_parts (fits (x ∷ xs)) (list_all is_field_byte (x ∷ xs)) halves.1 in
    let salt_parts = and_parts (fits salt) (list_all is_field_byte salt) salted in
    let tail : List ℕ = codes "sha256" ++ 58 ∷ (salt ++ 58 ∷ hex salt password) in
    let line : List ℕ = (x ∷ xs) ++ 58 ∷ tail in
    let skipped : is_skipped line ≡ false = not_skipped x xs (58 ∷ tail) halves.0 in
    let has : has_colon line ≡ true = colon (x ∷ xs) tail name_parts.1 in
    let first : before_first is_colon line ≡ x ∷ xs = before (x ∷ xs) tail name_parts.1 in
    let rest : after_first is_colon line ≡ tail = after (x ∷ xs) tail name_parts.1 in
    ap (λ (t : Bool). if t then Ok None else if has_colon line then some_of (entry_of number (name_in (before_first is_colon line)) (stored_in (after_first is_colon line))) else Err NoColon) skipped
    ∙ ap (λ (t : Bool). if t then some_of (entry_of number (name_in (before_first is_colon line)) (stored_in (after_first is_colon line))) else Err NoColon) has
    ∙ ap (λ (t : List ℕ). some_of (entry_of number (name_in t) (stored_in (after_first is_colon line)))) first
    ∙ ap (λ (t : List ℕ). some_of (entry_of number (name_in (x ∷ xs)) (stored_in t))) rest
    ∙ ap (λ (r : Result (List ℕ) PasswordFault). some_of (entry_of number r (stored_in tail))) (name_read x xs name_parts.0 name_parts.1)
    ∙ ap (λ (r : Result Stored PasswordFault). some_of (entry_of number (Ok (x ∷ xs)) r)) (stored_read salt password salt_parts.0 salt_parts.1)
