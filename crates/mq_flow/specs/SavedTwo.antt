-- The saved form of a client's session, version 2: the client identifier and whether the session is
-- established, followed by the contents of version 1 (3.1.2.4, 3.1.3.1, 4.1).
use Rattle.std.specs.Prelude.{◌≡◌, ℕ, Bool, true, false, ◌&&◌, not, if◌then◌else◌, List, [], ◌∷◌, ◌++◌, length, drop, nat_eq, Option, Some, None, MatchOption, Result, Ok, Err}
use Rattle.std.specs.List.{starts_with}
use Rattle.mq_wire.specs.Text.{IsText, counted}
use Rattle.mq_wire.specs.TextReading.{read_text}
use Rattle.mq_wire.specs.declared.text.FieldFault.{FieldFault}
use Rattle.mq_packet.specs.Encoding.{bit}
use Rattle.mq_flow.specs.declared.load.LoadError.{LoadError}
use Rattle.mq_flow.specs.declared.load.LoadError.TheVariants as errors
use Rattle.mq_flow.specs.declared.saved.Saved as value
use Rattle.mq_flow.specs.declared.session.Session.{Session}
use Rattle.mq_flow.specs.Saved.{saved_sender, saved_receiver, Saved}
use Rattle.mq_flow.specs.Loading.{◌>>=◌, bad_at, flag_at, session_at, has_version, placed}

-- ---- Writing

-- `MQS`, and the version
abbrev pub signature_two : List ℕ
signature_two = 0x4d ∷ 0x51 ∷ 0x53 ∷ 2 ∷ []

-- the client's identifier (3.1.3.1), whether a CONNACK that accepts was read for the session, and
-- the session
abbrev pub saved_form_two : List ℕ → Bool → Session → List ℕ
saved_form_two client established session = signature_two ++ (counted client ++ (bit established ∷ (saved_sender session.sender ++ saved_receiver session.receiver)))

-- the identifier is a text, nothing is claimed, no room is reserved, and `bytes` is the saved form,
-- version 2
pub record SavedTwo (client : List ℕ) (established : Bool) (session : Session) (bytes : List ℕ) : Type 0 where
  pub text : IsText client
  pub unclaimed : session.sender.book.claimed ≡ []
  pub unreserved : session.sender.room ≡ 0
  pub form : bytes ≡ saved_form_two client established session

-- `bytes` is a saved form: version 2 if it names a client; otherwise version 1, which doesn't say
-- that the session is established.
abbrev pub IsSavedAs : value.Saved → List ℕ → Type 0
IsSavedAs saved bytes = MatchOption saved.client ((saved.established ≡ false) × Saved saved.session bytes) (λ client. SavedTwo client saved.established saved.session bytes)

-- ---- Reading

-- a text at the front, and the bytes after it
abbrev pub text_of : List ℕ → Result (List ℕ × ℕ) FieldFault → Result (List ℕ × List ℕ) ℕ
text_of bytes (Ok (text, place)) = Ok (text, drop place bytes)
text_of bytes (Err fault) = bad_at bytes

-- a text, behind a count of two bytes (1.5.3)
unfoldable pub text_at : List ℕ → Result (List ℕ × List ℕ) ℕ
text_at bytes = text_of bytes (read_text bytes 0)

-- The rest of version 1.
unfoldable pub first_at : (limit : ℕ) → List ℕ → Result value.Saved ℕ
first_at limit bytes = session_at limit bytes >>= λ session. Ok (record { client = None; established = false; session = session })

-- The rest of version 2.
unfoldable pub second_at : (limit : ℕ) → List ℕ → Result value.Saved ℕ
second_at limit bytes = text_at bytes >>= λ client. flag_at client.1 >>= λ established. session_at limit established.1 >>= λ session.
    Ok (record { client = Some client.0; established = established.0; session = session })

-- the first four bytes are `MQS` and version 2
abbrev pub has_version_two : List ℕ → Bool
has_version_two bytes = starts_with nat_eq bytes signature_two

-- The session in a saved form of either version, or why there is no session.
unfoldable pub read_saved : List ℕ → Result value.Saved LoadError
read_saved bytes =
    if has_version bytes then placed (length bytes) (first_at 268435455 (drop 4 bytes)) else
    (if has_version_two bytes then placed (length bytes) (second_at 268435455 (drop 4 bytes)) else Err errors.Version)
