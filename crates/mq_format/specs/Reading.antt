-- How a format is read, piece by piece.
use Rattle.std.specs.Prelude.{◌≡◌, ℕ, ◌+◌, ◌-◌, ◌*◌, min, nat_le, ◌==◌, ◌&&◌, ◌||◌, Bool, true, false, if◌then◌else◌, List, [], ◌∷◌, Option, Some, None, option_map, Result, Ok, Err}
use Rattle.std.specs.Option.{ok_or}
use Rattle.std.specs.Char.{is_ascii_digit}
use Rattle.mq_format.specs.declared.fault.FormatFault.{FormatFault}
use Rattle.mq_format.specs.declared.fault.FormatFault.TheVariants as faults
use Rattle.mq_format.specs.declared.field.Layout.{Layout}
use Rattle.mq_format.specs.declared.field.Field.{Field}
use Rattle.mq_format.specs.declared.field.Field.TheVariants as fields
use Rattle.mq_format.specs.declared.moment.TimeField.{TimeField}
use Rattle.mq_format.specs.declared.moment.TimeField.TheVariants as times
use Rattle.mq_format.specs.declared.piece.Piece.{Piece}
use Rattle.mq_format.specs.declared.piece.Piece.TheVariants as pieces

-- ---- letters

-- the entry of a letter
abbrev pub entry_of : {T : Type 0} → ℕ → List (ℕ × T) → Option T
entry_of letter [] = None
entry_of letter (entry ∷ entries) = if letter == entry.0 then Some entry.1 else entry_of letter entries

-- `%%`, `%t`, `%p`, `%x`, `%X`, `%q`, `%r`, `%l`, `%m`, `%I`, `%U`, `%j`, and the fields of MQTT 5:
-- `%A`, `%C`, `%D`, `%E`, `%F`, `%P`, `%R`, `%S`
abbrev pub field_letters : List (ℕ × Field)
field_letters =
    (37, fields.Percent) ∷ (116, fields.Topic) ∷ (112, fields.Payload)
    ∷ (120, fields.Hexadecimal false) ∷ (88, fields.Hexadecimal true)
    ∷ (113, fields.Qos) ∷ (114, fields.Retain) ∷ (108, fields.Length) ∷ (109, fields.Id)
    ∷ (73, fields.Time) ∷ (85, fields.Unix) ∷ (106, fields.Json)
    ∷ (65, fields.Nothing) ∷ (67, fields.Nothing) ∷ (68, fields.Nothing) ∷ (69, fields.Nothing)
    ∷ (70, fields.Nothing) ∷ (80, fields.Nothing) ∷ (82, fields.Nothing) ∷ (83, fields.Nothing) ∷ []

-- `@@`, `@Y`, `@m`, `@d`, `@H`, `@M`, `@S`, `@F`, `@T`, `@s`, `@N`, `@z`
abbrev pub time_letters : List (ℕ × TimeField)
time_letters =
    (64, times.At) ∷ (89, times.Year) ∷ (109, times.Month) ∷ (100, times.Day) ∷ (72, times.Hour)
    ∷ (77, times.Minute) ∷ (83, times.Second) ∷ (70, times.Date) ∷ (84, times.Clock)
    ∷ (115, times.Seconds) ∷ (78, times.Nanoseconds) ∷ (122, times.Zone) ∷ []

-- `\\`, `\0`, `\a`, `\e`, `\n`, `\r`, `\t`, `\v`, with the bytes that they print
abbrev pub escape_letters : List (ℕ × ℕ)
escape_letters =
    (92, 92) ∷ (48, 0) ∷ (97, 7) ∷ (101, 27) ∷ (110, 10) ∷ (114, 13) ∷ (116, 9) ∷ (118, 11) ∷ []

-- a letter as an error shows it: `?` if it is not printable
abbrev pub shown : ℕ → ℕ
shown letter = if nat_le 33 letter && nat_le letter 126 then letter else 63

-- ---- the layout behind `%`: a flag, a width, and a precision behind a full stop, each optional

-- The number that the digits at the front continue, at most 65535, and the text behind them.
abbrev pub number_at : ℕ → List ℕ → ℕ × List ℕ
number_at number [] = (number, [])
number_at number (byte ∷ rest) =
    if is_ascii_digit byte then number_at (min 65535 (number * 10 + (byte - 48))) rest
    else (number, byte ∷ rest)

abbrev pub begins_with : ℕ → List ℕ → Bool
begins_with letter [] = false
begins_with letter (byte ∷ _) = byte == letter

-- the text behind a flag `-` or `0`
abbrev pub after_flag : List ℕ → List ℕ
after_flag [] = []
after_flag (byte ∷ rest) = if (byte == 45) || (byte == 48) then rest else byte ∷ rest

abbrev pub precision_at : List ℕ → Option ℕ × List ℕ
precision_at [] = (None, [])
precision_at (byte ∷ rest) =
    if byte == 46 then (Some (number_at 0 rest).0, (number_at 0 rest).1) else (None, byte ∷ rest)

abbrev pub width_at : List ℕ → ℕ × List ℕ
width_at text = number_at 0 (after_flag text)

abbrev pub layout_at : List ℕ → Layout
layout_at text = record {
  width = (width_at text).0;
  is_left = begins_with 45 text;
  is_zero = begins_with 48 text;
  precision = (precision_at (width_at text).1).0;
}

abbrev pub after_layout : List ℕ → List ℕ
after_layout text = (precision_at (width_at text).1).1

-- ---- pieces, each with the text behind it

abbrev pub Reading : Type 0
Reading = Result (Piece × List ℕ) FormatFault

-- the piece that a letter names
abbrev pub named : {T : Type 0} → List (ℕ × T) → (T → Piece) → (ℕ → FormatFault) → List ℕ → Reading
named entries piece fault [] = Err faults.Incomplete
named entries piece fault (letter ∷ rest) =
    ok_or (option_map (λ found. (piece found, rest)) (entry_of letter entries)) (fault (shown letter))

-- the piece at the front of a text
abbrev pub piece_at : ℕ → List ℕ → Reading
piece_at byte rest =
    if byte == 37 then named field_letters (λ field. pieces.Field field (layout_at rest)) faults.NoField (after_layout rest)
    else (if byte == 64 then named time_letters pieces.Time faults.NoTimeField rest
    else (if byte == 92 then named escape_letters pieces.Byte faults.NoEscape rest
    else Ok (pieces.Byte byte, rest)))

-- The pieces are read one after another, and this text is left.
abbrev pub Reads : List Piece → List ℕ → List ℕ → Type 0
Reads [] text left = text ≡ left
Reads (piece ∷ others) text left =
    (byte : ℕ) × (rest : List ℕ) × (behind : List ℕ)
    × (text ≡ byte ∷ rest) × (piece_at byte rest ≡ Ok (piece, behind)) × Reads others behind left

-- After some pieces the text goes on with something that is none.
abbrev pub FailsWith : List ℕ → FormatFault → Type 0
FailsWith text fault =
    (before : List Piece) × (byte : ℕ) × (rest : List ℕ)
    × Reads before text (byte ∷ rest) × (piece_at byte rest ≡ Err fault)
