-- Reading single fields from the front of the bytes of a packet (1.5). Each gives its value and the
-- bytes after it, or the first thing that is wrong, with the number of bytes from the field on.
use Rattle.std.specs.Prelude.{ℕ, List, [], ◌∷◌, length, take, drop, Option, Some, None, Result, Ok, Err, nat_lt, ◌==◌, if◌then◌else◌}
use Rattle.mq_wire.specs.declared.text.FieldFault.TheVariants as texts
use Rattle.mq_wire.specs.declared.text.FieldFault.{FieldFault}
use Rattle.mq_wire.specs.Number.{number_in}
use Rattle.mq_wire.specs.TextReading.{read_text}
use Rattle.mq_topic.specs.Topic.{is_topic_name, is_topic_filter}
use Rattle.mq_decode.specs.declared.fault.FaultKind.{FaultKind}
use Rattle.mq_decode.specs.declared.fault.FaultKind.TheVariants.{PastEnd, NotUtf8, Nul, NotTopicName, NotTopicFilter, ZeroIdentifier, ForbiddenCode, BytesLeft}
use Rattle.mq_decode.specs.declared.fault.BadField.{BadField}
use Rattle.mq_decode.specs.Gives.{◌>>=◌}

-- the field at the front of these bytes is bad
abbrev pub bad_at : FaultKind → List ℕ → BadField
bad_at kind bytes = record { kind = kind; left = length bytes }

-- two bytes (1.5.2)
unfoldable pub number_at : List ℕ → Result (ℕ × List ℕ) BadField
number_at bytes = if nat_lt (length bytes) 2 then Err (bad_at PastEnd bytes) else Ok (number_in bytes 0, drop 2 bytes)

-- a packet identifier (2.3.1)
unfoldable pub identifier_at : List ℕ → Result (ℕ × List ℕ) BadField
identifier_at bytes = number_at bytes >>= λ id. if id.0 == 0 then Err (bad_at ZeroIdentifier bytes) else Ok id

-- a text (1.5.3)
abbrev pub text_fault : FieldFault → FaultKind
text_fault texts.Past = PastEnd
text_fault texts.NotUtf8 = NotUtf8
text_fault texts.Nul = Nul

abbrev pub text_field : List ℕ → Result (List ℕ × ℕ) FieldFault → Result (List ℕ × List ℕ) BadField
text_field bytes (Ok found) = Ok (found.0, drop found.1 bytes)
text_field bytes (Err fault) = Err (bad_at (text_fault fault) bytes)

unfoldable pub text_at : List ℕ → Result (List ℕ × List ℕ) BadField
text_at bytes = text_field bytes (read_text bytes 0)

-- a topic name, a topic filter (4.7)
unfoldable pub name_at : List ℕ → Result (List ℕ × List ℕ) BadField
name_at bytes = text_at bytes >>= λ text. if is_topic_name text.0 then Ok text else Err (bad_at NotTopicName bytes)

unfoldable pub filter_at : List ℕ → Result (List ℕ × List ℕ) BadField
filter_at bytes = text_at bytes >>= λ text. if is_topic_filter text.0 then Ok text else Err (bad_at NotTopicFilter bytes)

-- A binary field: two bytes with the number of bytes, and the bytes.
unfoldable pub binary_at : List ℕ → Result (List ℕ × List ℕ) BadField
binary_at bytes = number_at bytes >>= λ size. if nat_lt (length size.1) size.0 then Err (bad_at PastEnd bytes) else Ok (take size.0 size.1, drop size.0 size.1)

-- a byte that is a code of some kind (3.8.3, 3.9.3)
abbrev pub code_or_fault : {A : Type 0} → Option A → ℕ → List ℕ → Result (A × List ℕ) BadField
code_or_fault None byte bytes = Err (bad_at ForbiddenCode (byte ∷ bytes))
code_or_fault (Some code) byte bytes = Ok (code, bytes)

abbrev pub code_byte_at : {A : Type 0} → (ℕ → Option A) → List ℕ → Result (A × List ℕ) BadField
code_byte_at from [] = Err (bad_at PastEnd [])
code_byte_at from (byte ∷ bytes) = code_or_fault (from byte) byte bytes

-- the end of the packet
abbrev pub end_at : List ℕ → Result (Unit {0}) BadField
end_at [] = Ok tt
end_at (byte ∷ bytes) = Err (bad_at BytesLeft (byte ∷ bytes))
