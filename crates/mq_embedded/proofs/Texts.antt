-- Bytes that are texts (1.5.3).
use Rattle.std.proofs.Common.{ℕ, List, Result, Ok, Err, MatchResult, IsOk, inr, refl}
use Rattle.std.specs.Str.{IsUtf8}
use Rattle.std.proofs.lemmas.Str.{IsUtf8-from_is_utf8}
use Rattle.mq_wire.specs.Text.{IsText}
use Rattle.mq_embedded.specs.declared.fault.CallFault.TheVariants as faults
use Rattle.mq_embedded.specs.Arguments.{IsArgumentFault}

text_utf8 : (t : List ℕ) → IsText t → IsUtf8 t
text_utf8 t h = IsUtf8-from_is_utf8 t h.utf8

pub not_utf8 : (t : List ℕ) → (IsUtf8 t → ⊥) → IsArgumentFault (IsText t) faults.Argument
not_utf8 t fails = inr (refl, λ h. fails (text_utf8 t h))

-- A reader of UTF-8 accepts a text.
pub text_read : {A E : Type 0} (P : A → Type 0) (Q : E → Type 0) (t : List ℕ) (r : Result A E) → MatchResult r P (λ e. (IsUtf8 t → ⊥) × Q e) → IsText t → IsOk r
text_read P Q t (Ok s) read h = refl
text_read P Q t (Err e) read h = absurd (read.0 (text_utf8 t h))
