-- Bytes as hexadecimal digits.
use Rattle.std.specs.Prelude.{◌≡◌, ℕ, ◌%◌, List, length}
use Rattle.std.specs.List.{AllPass}
use Rattle.hex.specs.Hex.{is_hex_digit}

-- two digits for each byte, in either case
abbrev pub IsHexadecimal : List ℕ → Type 0
IsHexadecimal text = (length text % 2 ≡ 0) × AllPass is_hex_digit text
