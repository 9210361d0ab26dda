-- Texts in JSON.
use Rattle.std.specs.Prelude.{ℕ, ◌==◌, nat_lt, Bool, false, if◌then◌else◌, List, [], ◌∷◌, ◌++◌, codes}
use Rattle.std.specs.List.{flat_map}
use Rattle.mq_format.specs.Layout.{hexadecimal_byte}

-- a backslash and a letter, for the bytes that have such an escape
abbrev pub short_escape : ℕ → List ℕ → List ℕ
short_escape byte other =
    if byte == 34 then codes "\\\"" else (if byte == 92 then codes "\\\\" else (
    if byte == 8 then codes "\\b" else (if byte == 12 then codes "\\f" else (
    if byte == 10 then codes "\\n" else (if byte == 13 then codes "\\r" else (
    if byte == 9 then codes "\\t" else other))))))

-- Of the other bytes those below 20 (hexadecimal) are escaped by their number.
abbrev pub escaped_byte : ℕ → List ℕ
escaped_byte byte =
    short_escape byte (if nat_lt byte 32 then codes "\\u00" ++ hexadecimal_byte false byte else byte ∷ [])

-- a text in quotation marks
abbrev pub quoted : List ℕ → List ℕ
quoted text = codes "\"" ++ (flat_map escaped_byte text ++ codes "\"")
