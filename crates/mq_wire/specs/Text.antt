-- UTF-8 encoded strings (1.5.3).
use Rattle.std.specs.Prelude.{◌≡◌, ℕ, ◌<◌, Bool, true, false, List, ◌++◌, length, ◌==◌}
use Rattle.std.specs.List.{list_any}
use Rattle.std.specs.Str.{is_utf8}
use Rattle.mq_wire.specs.Number.{number}

-- `text` contains U+0000, the only character whose UTF-8 encoding has a byte 0.
abbrev pub has_nul : List ℕ → Bool
has_nul text = list_any (λ byte. byte == 0) text

-- `text` is UTF-8 without surrogates, has at most 65,535 bytes and no U+0000.
pub record IsText (text : List ℕ) : Type 0 where
  pub utf8 : is_utf8 text ≡ true
  pub no_nul : has_nul text ≡ false
  pub short : length text < 65536

-- The number of bytes in two bytes, followed by the bytes.
abbrev pub counted : List ℕ → List ℕ
counted text = number (length text) ++ text

-- `bytes` is the encoding of `text` in a packet.
abbrev pub Text : List ℕ → List ℕ → Type 0
Text text bytes = IsText text × (bytes ≡ counted text)
