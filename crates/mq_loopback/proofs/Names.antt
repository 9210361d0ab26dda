-- Texts that are printed in a word.
use Rattle.std.proofs.Common.{◌≡◌, ◌↔◌, ℕ, ◌≤◌, ◌<◌, true, List, length, IsUtf8, None, Result, Err, refl, sym, ap, ◌∙◌, arith}
use Rattle.std.specs.Prelude.{IfNone, IsErrOf}
use Rattle.std.proofs.lemmas.Str.{IsUtf8-from_is_utf8}
use Rattle.hex.specs.Hex.{IsBytes}
use Rattle.mq_wire.specs.Text.{IsText, has_nul}
use Rattle.mq_wire.specs.declared.text.TextFault.{TextFault}
use Rattle.mq_wire.specs.declared.text.TextFault.TheVariants as texts
use Rattle.mq_topic.specs.Fault.{filter_fault}
use Rattle.mq_topic.specs.Topic.{IsTopicFilter}
use Rattle.mq_topic.specs.declared.fault.TopicFault.{TopicFault}
use Rattle.mq_topic.specs.declared.fault.TopicFault.TheVariants as faults
use Rattle.mq_topic.proofs.Faults.{laws}
use Rattle.mq_packet.specs.Lines.{escaped, escaped_byte}
use Rattle.mq_schedule.proofs.Codes.{escaped_code, same_codes}
use Rattle.mq_schedule.proofs.Octets.{utf8_bytes}

pub text_utf8 : (t : List ℕ) → IsText t → IsUtf8 t
text_utf8 t h = IsUtf8-from_is_utf8 t h.utf8

pub text_bytes : (t : List ℕ) → IsText t → IsBytes t
text_bytes t h = utf8_bytes t (text_utf8 t h)

-- the text that is printed so is these bytes
pub text_is : (word bytes t : List ℕ) → IsBytes bytes → word ≡ escaped bytes → IsText t × (word ≡ escaped t) → t ≡ bytes
text_is word bytes t are e h = same_codes escaped_byte escaped_code t bytes (text_bytes t h.0) are (sym h.1 ∙ e)

-- two texts that are printed the same way are the same
pub same_text : (s t : List ℕ) → IsText s → IsText t → escaped s ≡ escaped t → s ≡ t
same_text s t h k e = same_codes escaped_byte escaped_code s t (text_bytes s h) (text_bytes t k) e

-- A valid text has no fault except a failed allocation.
pub text_memory : (r : Result (List ℕ) TextFault) (text name : List ℕ) (fault : TextFault) → r ≡ Err fault → name ≡ text → IsText name
    → IsErrOf r texts.TooLong ↔ (65535 < length text) → IsErrOf r texts.Nul ↔ ((length text ≤ 65535) × (has_nul text ≡ true)) → fault ≡ texts.Memory
text_memory r text name texts.TooLong e same h long nul = absurd (omega (arith, long.0 e, ap length same, h.short))
text_memory r text name texts.Nul e same h long nul = let some : has_nul name ≡ true = ap has_nul same ∙ (nul.0 e).1 in absurd (cc (some, h.no_nul))
text_memory r text name texts.Memory e same h long nul = refl

-- A valid filter has no fault except a failed allocation.
pub filter_memory : (text filter : List ℕ) (fault : TopicFault) → filter ≡ text → IsTopicFilter filter → IfNone (filter_fault text) (fault ≡ faults.Memory) → fault ≡ faults.Memory
filter_memory text filter fault same h memory =
    let none : filter_fault text ≡ None = ap filter_fault (sym same) ∙ (laws.filter filter h.text.utf8).1 h in
    rw none at memory
