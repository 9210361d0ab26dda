-- Text in HTML.
use Rattle.std.specs.Prelude.{◌≡◌, ℕ, Bool, true, not, ◌&&◌, ◌||◌, ◌==◌, List, [], ◌∷◌, length, take, codes, if◌then◌else◌}
use Rattle.std.specs.List.{flat_map, list_any}
use Rattle.std.specs.Str.{bytes_eq}
use Rattle.mq_packet.specs.Lines.{escaped_byte}

-- a character that HTML reads as more than itself becomes an entity; any other byte is printed as
-- in a line
abbrev pub html_byte : ℕ → List ℕ
html_byte byte =
    if byte == 60 then codes "&lt;"
    else if byte == 62 then codes "&gt;"
    else if byte == 38 then codes "&amp;"
    else if byte == 34 then codes "&quot;"
    else if byte == 39 then codes "&#39;"
    else escaped_byte byte

abbrev pub html_escaped : List ℕ → List ℕ
html_escaped text = flat_map html_byte text

-- a byte that HTML reads as itself
abbrev pub is_plain : ℕ → Bool
is_plain byte = not (byte == 60) && (not (byte == 62) && (not (byte == 38) && (not (byte == 34) && not (byte == 39))))

-- behind `&` the rest of an entity begins
abbrev pub begins_entity : List ℕ → Bool
begins_entity text =
    list_any (λ name. bytes_eq (take (length name) text) name)
    (codes "lt;" ∷ codes "gt;" ∷ codes "amp;" ∷ codes "quot;" ∷ codes "#39;" ∷ [])

-- HTML reads each byte as itself, or as part of an entity: there is no `<`, `>`, `"` or `'`, and
-- each `&` begins an entity.
abbrev pub is_safe : List ℕ → Bool
is_safe [] = true
is_safe (byte ∷ rest) = (is_plain byte || (byte == 38 && begins_entity rest)) && is_safe rest

pub record HtmlLaws : Type 0 where
  -- No text can close an element or an attribute, open one or make an entity of its own.
  pub safe : (text : List ℕ) → is_safe (html_escaped text) ≡ true
