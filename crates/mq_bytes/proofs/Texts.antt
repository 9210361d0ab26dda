-- The bytes that are texts (1.5.3), and saved sessions.
use Rattle.std.proofs.Common.{◌≡◌, ℕ, ◌<◌, true, false, true≢false, List, length, sym, ◌∙◌, arith}
use Rattle.std.specs.Str.{IsUtf8}
use Rattle.std.proofs.lemmas.Str.{IsUtf8-from_is_utf8, is_utf8-from_IsUtf8}
use Rattle.mq_wire.specs.Text.{IsText, has_nul}
use Rattle.mq_flow.specs.Saved.{IsSession}
use Rattle.mq_flow.specs.SavedTwo.{IsSavedAs}
use Rattle.mq_flow.specs.declared.saved.Saved.{Saved}
use Rattle.mq_bytes.specs.Checks.{IsSavedSession}

pub is_text : (t : List ℕ) → IsUtf8 t → has_nul t ≡ false → length t < 65536 → IsText t
is_text t utf8 no_nul short = record { utf8 = is_utf8-from_IsUtf8 t utf8; no_nul = no_nul; short = short }

pub long_is_no_text : (t : List ℕ) → 65535 < length t → IsText t → ⊥
long_is_no_text t long h = let short = h.short in absurd (omega arith)

pub nul_is_no_text : (t : List ℕ) → has_nul t ≡ true → IsText t → ⊥
nul_is_no_text t nul h = absurd (true≢false (sym nul ∙ h.no_nul))

pub no_utf8_is_no_text : (t : List ℕ) → (IsUtf8 t → ⊥) → IsText t → ⊥
no_utf8_is_no_text t fails h = fails (IsUtf8-from_is_utf8 t h.utf8)

pub saved_session : (v : Saved) (b : List ℕ) → IsSavedAs v b × IsSession v.session → IsSavedSession b
saved_session v b h = (v, h.1, h.0)
