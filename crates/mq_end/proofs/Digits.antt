-- The number of bytes of a remaining length (2.2.3).
use Rattle.std.proofs.Common.{◌≡◌, ℕ, ◌<◌, ◌≤◌, length, refl}
use Rattle.std.proofs.lemmas.Bool.{lt-ltb, le-ltb}
use Rattle.mq_wire.specs.Length.{length_bytes}

pub one_digit : (n : ℕ) → n < 128 → 1 ≡ length (length_bytes n)
unfolding length_bytes
one_digit n less = rw (lt-ltb n 128 less) refl

pub two_digits : (n : ℕ) → 128 ≤ n → n < 16384 → 2 ≡ length (length_bytes n)
unfolding length_bytes
two_digits n more less = rw (le-ltb n 128 more, lt-ltb n 16384 less) refl

pub three_digits : (n : ℕ) → 128 ≤ n → 16384 ≤ n → n < 2097152 → 3 ≡ length (length_bytes n)
unfolding length_bytes
three_digits n first more less = rw (le-ltb n 128 first, le-ltb n 16384 more, lt-ltb n 2097152 less) refl

pub four_digits : (n : ℕ) → 128 ≤ n → 16384 ≤ n → 2097152 ≤ n → 4 ≡ length (length_bytes n)
unfolding length_bytes
four_digits n first second more = rw (le-ltb n 128 first, le-ltb n 16384 second, le-ltb n 2097152 more) refl
