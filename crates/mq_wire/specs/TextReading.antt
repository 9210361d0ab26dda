-- Reading a text, and the laws that connect it with `Text` (1.5.3).
use Rattle.std.specs.Prelude.{◌≡◌, ℕ, ◌+◌, ◌≤◌, List, ◌++◌, length, take, drop, Result, Ok, Err, nat_lt, if◌then◌else◌}
use Rattle.std.specs.Str.{is_utf8}
use Rattle.mq_wire.specs.declared.text.FieldFault.{FieldFault}
use Rattle.mq_wire.specs.declared.text.FieldFault.TheVariants.{Past, NotUtf8, Nul}
use Rattle.mq_wire.specs.Number.{number_in}
use Rattle.mq_wire.specs.Text.{IsText, has_nul, counted}
use Rattle.mq_wire.specs.Bytes.{AreBytes}

-- The index after the text whose length is at index `at`.
abbrev pub text_end : List ℕ → ℕ → ℕ
text_end bytes at = at + 2 + number_in bytes at

abbrev pub text_bytes : List ℕ → ℕ → List ℕ
text_bytes bytes at = take (number_in bytes at) (drop (at + 2) bytes)

-- The bytes as a text, or the first fault: not UTF-8, or U+0000.
unfoldable pub checked_text : List ℕ → Result (List ℕ) FieldFault
checked_text text = if is_utf8 text then (if has_nul text then Err Nul else Ok text) else Err NotUtf8

abbrev pub with_place : ℕ → Result (List ℕ) FieldFault → Result (List ℕ × ℕ) FieldFault
with_place place (Ok text) = Ok (text, place)
with_place place (Err fault) = Err fault

-- The text whose length is at index `at`, with the index after it; or the first fault: it extends
-- past the end, it is not UTF-8, it contains U+0000.
unfoldable pub read_text : List ℕ → ℕ → Result (List ℕ × ℕ) FieldFault
read_text bytes at =
    if nat_lt (length bytes) (at + 2) then Err Past else
    (if nat_lt (length bytes) (text_end bytes at) then Err Past else with_place (text_end bytes at) (checked_text (text_bytes bytes at)))

-- The laws of texts.
pub record TextLaws : Type 0 where
  -- An encoded text is read back, whatever surrounds it.
  pub again : (front text rest : List ℕ) → IsText text → read_text (front ++ (counted text ++ rest)) (length front) ≡ Ok (text, length front + 2 + length text)
  -- Only encoded texts are read as texts.
  pub found : (bytes : List ℕ) (at : ℕ) (text : List ℕ) (end : ℕ) → AreBytes bytes → read_text bytes at ≡ Ok (text, end)
      → IsText text × (end ≡ at + 2 + length text) × (end ≤ length bytes) × (drop at bytes ≡ counted text ++ drop end bytes)
