-- How a text or a number is laid out.
use Rattle.std.specs.Prelude.{ℕ, ◌-◌, ◌+◌, ◌/◌, ◌%◌, ◌<◌, nat_lt, Bool, if◌then◌else◌, List, [], ◌∷◌, ◌++◌, length, replicate, decimal, Option, Some, None, take}
use Rattle.std.specs.List.{flat_map}
use Rattle.mq_format.specs.declared.field.Layout.{Layout}

-- ---- numbers and bytes

-- a number with at least this many digits
abbrev pub with_zeros : ℕ → ℕ → List ℕ
with_zeros least number = replicate (least - length (decimal number)) 48 ++ decimal number

-- 0 to 9, and a to f or A to F
abbrev pub hexadecimal_digit : Bool → ℕ → ℕ
hexadecimal_digit is_upper digit =
    if nat_lt digit 10 then 48 + digit else (if is_upper then 55 + digit else 87 + digit)

-- two digits
abbrev pub hexadecimal_byte : Bool → ℕ → List ℕ
hexadecimal_byte is_upper byte =
    hexadecimal_digit is_upper (byte / 16) ∷ hexadecimal_digit is_upper (byte % 16) ∷ []

abbrev pub hexadecimal_text : Bool → List ℕ → List ℕ
hexadecimal_text is_upper bytes = flat_map (hexadecimal_byte is_upper) bytes

-- ---- widths

-- `-` puts the text at the left of its width, with spaces behind it. Else a byte fills up the width
-- before it.
abbrev pub padded : Layout → ℕ → List ℕ → List ℕ
padded layout filler text =
    if layout.is_left then text ++ replicate (layout.width - length text) 32
    else replicate (layout.width - length text) filler ++ text
