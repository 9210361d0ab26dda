-- The codes of results.
use Rattle.std.proofs.Common.{◌≡◌, ℕ, ◌<◌, ◌≤◌, ◌^◌, Bool, true, false, List, Result, Ok, Err, refl, ap, subst, ◌∙◌, inl, inr, arith}
use Rattle.std.specs.Prelude.{◌↔◌, ◌⊎◌, IsOk, IsTrue, IfOk, IfErr, ℤ, pos, negsuc}
use Rattle.mq_decode.specs.Limits.{Bounds}
use Rattle.mq_bytes.specs.declared.fault.CheckFault.{CheckFault}
use Rattle.mq_bytes.specs.declared.fault.CheckFault.TheVariants.{Memory, Text, Name, Filter, Session}
use Rattle.mq_bytes.specs.declared.fault.EncodeFault.{EncodeFault}
use Rattle.mq_bytes.specs.declared.places.Front.{Front}
use Rattle.mq_bytes.specs.declared.places.PacketFields.{PacketFields}
use Rattle.mq_bytes.specs.Places.{IsLocated}
use Rattle.mq_ffi.specs.declared.exports.Fault.{Fault}
use Rattle.mq_ffi.specs.Codes.{encode_code}
use Rattle.mq_ffi.specs.Inside.Codes.{check_code, match_code}
use Rattle.mq_ffi.specs.Exports.{CodesOf, ReportsFront, ReportsPacket, bounds}

pub packet_reported : (most : ℕ) (lenient : Bool) (limits : Bounds) (b : List ℕ) (front : Front) (fields : PacketFields) (fault : Fault) (code : ℤ) → limits ≡ bounds most lenient → IsLocated limits b front → ReportsFront front fields fault code → ReportsPacket most lenient b fields fault code
packet_reported most lenient limits b front fields fault code e h r = (front, subst (λ (l : Bounds). IsLocated l b front) e h, r)

pub coded : (Allows : Result ℕ EncodeFault → Type 0) (r : Result ℕ EncodeFault) (code : ℤ) → Allows r → code ≡ encode_code r → CodesOf Allows code
coded Allows r code h e = (r, h, e)

-- 0 is the code of success alone.
ok_is_zero : (r : Result (Unit {0}) CheckFault) → IsOk r → check_code r ≡ pos 0
ok_is_zero (Ok done) h = refl
ok_is_zero (Err fault) h = absurd cc

zero_is_ok : (r : Result (Unit {0}) CheckFault) → check_code r ≡ pos 0 → IsOk r
zero_is_ok (Ok done) e = refl
zero_is_ok (Err Memory) e = absurd cc
zero_is_ok (Err Text) e = absurd cc
zero_is_ok (Err Name) e = absurd cc
zero_is_ok (Err Filter) e = absurd cc
zero_is_ok (Err Session) e = absurd cc

pub checked : (P : Type 0) (r : Result (Unit {0}) CheckFault) (code : ℤ) → code ≡ check_code r → (IsOk r ↔ P) → (code ≡ pos 0) ↔ P
checked P r code e h =
    (λ z. h.0 (zero_is_ok r (subst (λ (k : ℤ). k ≡ pos 0) e z)), λ p. e ∙ ok_is_zero r (h.1 p))

pub saved_checked : (P : Type 0) (r : Result (Unit {0}) CheckFault) (code : ℤ) → code ≡ check_code r → (IsOk r → P) → code ≡ pos 0 → P
saved_checked P r code e h z = h (zero_is_ok r (subst (λ (k : ℤ). k ≡ pos 0) e z))

pub memory_alone : (P : Type 0) (r : Result (Unit {0}) CheckFault) (code : ℤ) → code ≡ check_code r → (P → IfErr r (λ why. why ≡ Memory)) → P → (code ≡ pos 0) ⊎ (code ≡ negsuc 0)
memory_alone P (Ok done) code e h p = inl e
memory_alone P (Err fault) code e h p = inr (e ∙ ap check_code (ap Err (h p)))

-- 1 and 0 are those of a match.
pub match_yes : (M : Type 0) (r : Result Bool CheckFault) (code : ℤ) → code ≡ match_code r → IfOk r (λ yes. IsTrue yes ↔ M) → code ≡ pos 1 → M
match_yes M (Ok true) code e h z = h.0 refl
match_yes M (Ok false) code e h z = absurd cc
match_yes M (Err Memory) code e h z = absurd cc
match_yes M (Err Text) code e h z = absurd cc
match_yes M (Err Name) code e h z = absurd cc
match_yes M (Err Filter) code e h z = absurd cc
match_yes M (Err Session) code e h z = absurd cc

pub match_no : (M : Type 0) (r : Result Bool CheckFault) (code : ℤ) → code ≡ match_code r → IfOk r (λ yes. IsTrue yes ↔ M) → code ≡ pos 0 → M → ⊥
match_no M (Ok false) code e h z m = let wrong : false ≡ true = h.1 m in absurd cc
match_no M (Ok true) code e h z m = absurd cc
match_no M (Err Memory) code e h z m = absurd cc
match_no M (Err Text) code e h z m = absurd cc
match_no M (Err Name) code e h z m = absurd cc
match_no M (Err Filter) code e h z m = absurd cc
match_no M (Err Session) code e h z m = absurd cc

pub match_memory : (P Q : Type 0) (r : Result Bool CheckFault) (code : ℤ) → code ≡ match_code r → IfErr r (λ why. P → Q → why ≡ Memory) → P → Q → (code ≡ pos 0) ⊎ ((code ≡ pos 1) ⊎ (code ≡ negsuc 0))
match_memory P Q (Ok false) code e h p q = inl e
match_memory P Q (Ok true) code e h p q = inr (inl e)
match_memory P Q (Err fault) code e h p q = inr (inr (e ∙ ap match_code (ap Err (h p q))))

pub small_fits : (r : Result ℕ EncodeFault) → IfOk r (λ n. n ≤ 7) → IfOk r (λ n. n < 2 ^ 63)
small_fits (Ok n) h = omega (arith, h)
small_fits (Err fault) h = tt

pub large_fits : (r : Result ℕ EncodeFault) → IfOk r (λ n. n < 2 ^ 29) → IfOk r (λ n. n < 2 ^ 63)
large_fits (Ok n) h = omega (arith, h)
large_fits (Err fault) h = tt
