-- Values of words.
use Rattle.std.proofs.Common.{◌≡◌, ◌≢◌, ◌↔◌, ℕ, ◌^◌, ◌<◌, false, List, [], ◌∷◌, length, Option, Some, None, Result, Ok, Err, refl, sym, ap, subst, ◌∙◌}
use Rattle.std.specs.Prelude.{IfOk, IfSome, IfNone, IsErr, IsSome}
use Rattle.std.specs.Str.{bytes_eq}
use Rattle.hex.specs.Hex.{IsBytes}
use Rattle.mq_topic.specs.Fault.{name_fault}
use Rattle.mq_topic.specs.Topic.{IsTopicName}
use Rattle.mq_topic.specs.declared.fault.TopicFault.{TopicFault}
use Rattle.mq_topic.specs.declared.fault.TopicFault.TheVariants as faults
use Rattle.mq_topic.proofs.Faults.{laws}
use Rattle.mq_packet.specs.Lines.{byte_digits, escaped, escaped_byte, hex_of}
use Rattle.mq_schedule.specs.Schedule.{bytes_word}
use Rattle.mq_schedule.specs.Parts.{Finds}
use Rattle.mq_schedule.proofs.Codes.{digits_code, escaped_code, same_codes}
use Rattle.mq_schedule.proofs.Octets.{name_bytes}

-- ---- payloads

-- the word of a payload is not empty
pub some_word : (bytes : List ℕ) → IsBytes bytes → bytes_word bytes ≢ []
some_word [] h e = absurd (cc e)
some_word (b ∷ bytes) h e = digits_code.some b (hex_of bytes) (h 0) e

-- A word that is not `-` is digits.
pub no_dash : (word bytes : List ℕ) → false ≡ bytes_eq word (45 ∷ []) → word ≡ bytes_word bytes → word ≡ hex_of bytes
no_dash word [] other e = let k = rw e at other in absurd (cc k)
no_dash word (b ∷ bytes) other e = e

-- Digits, if there are some.
some_digits : (word bytes : List ℕ) → word ≢ [] → word ≡ hex_of bytes → word ≡ bytes_word bytes
some_digits word [] some e = absurd (some e)
some_digits word (b ∷ bytes) some e = e

-- The payload in digits, if there are not too many.
pub payload_found : (r : Option (List ℕ)) (word bytes : List ℕ) → false ≡ bytes_eq word (45 ∷ []) → word ≢ [] → IsBytes bytes → word ≡ hex_of bytes → IsSome r ↔ (length bytes < 2 ^ 28) → IfSome r (λ p. p ≡ bytes)
    → Finds (λ (payload : List ℕ). IsBytes payload × (length payload < 2 ^ 28) × (word ≡ bytes_word payload)) r
payload_found None word bytes other some are e fits same = λ value h.
    let all = same_codes byte_digits digits_code value bytes h.0 are (sym (no_dash word value other h.2) ∙ e) in
    absurd (cc (fits.1 (subst (λ (t : List ℕ). length t < 2 ^ 28) all h.1)))
payload_found (Some p) word bytes other some are e fits same =
    subst (λ (t : List ℕ). IsBytes t × (length t < 2 ^ 28) × (word ≡ bytes_word t)) (sym same) (are, fits.0 refl, some_digits word bytes some e)

-- ---- topic names

-- the name that is printed so is the text
pub name_is : (word text name : List ℕ) → IsBytes text → word ≡ escaped text → IsTopicName name × (word ≡ escaped name) → name ≡ text
name_is word text name are e h = same_codes escaped_byte escaped_code name text (name_bytes name h.0) are (sym h.1 ∙ e)

-- A valid name has no fault except a failed allocation.
pub name_memory : (text name : List ℕ) (fault : TopicFault) → name ≡ text → IsTopicName name → IfNone (name_fault text) (fault ≡ faults.Memory) → fault ≡ faults.Memory
name_memory text name fault same h memory =
    let none : name_fault text ≡ None = ap name_fault (sym same) ∙ (laws.name name h.text.utf8).1 h in
    rw none at memory

-- Without a value, nothing is found, or there is an error.
pub no_value : {E : Type 0} (r : Result (Option (List ℕ)) E) (P : List ℕ → Type 0) → IfOk r (λ o. o ≡ None) → ((value : List ℕ) → P value → IsErr r) → IfOk r (Finds P)
no_value (Ok o) P none fails = rw none (λ value h. absurd (cc (fails value h)))
no_value (Err e) P none fails = tt
