-- Digits behind a point.
use Rattle.std.proofs.Common.{◌≡◌, ℕ, ◌+◌, ◌*◌, ◌-◌, ◌/◌, ◌<◌, ◌≤◌, List, length, drop, drop-cons, get_or, ap, arith}
use native.Mathlib.Numerals.{unary_clauses}
use Rattle.std.proofs.Math.Nat.{mul-le-mul_right}
use Rattle.mq_pubsub_options.specs.Seconds.{fraction}

-- a digit counts at most nine units
pub few_units : (digit unit : ℕ) → digit ≤ 57 → (digit - 48) * unit ≤ 9 * unit
few_units digit unit h = mul-le-mul_right unit (omega (arith, h))

-- the digit at a place, and those behind it
pub one_digit : (unit i : ℕ) (digits : List ℕ) → i < length digits → fraction unit (drop i digits) ≡ (get_or digits i 0 - 48) * (unit / 10) + fraction (unit / 10) (drop (i + 1) digits)
one_digit unit i digits h = simp unary_clauses (ap (fraction unit) (drop-cons digits i 0 h))
