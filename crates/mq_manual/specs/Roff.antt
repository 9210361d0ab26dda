-- Text in the language of manual pages.
use Rattle.std.specs.Prelude.{ℕ, ◌==◌, if◌then◌else◌, Option, Some, None, List, ◌++◌, codes, encode_utf8}
use Rattle.std.specs.List.{flat_map}
use Rattle.std.specs.Str.{chars}
use Rattle.std.specs.Str.Lines.{lines}

-- the form of a character that the formatter does not print as it is: a backslash, `-`, `'`, a
-- backtick, `"`, `^` or `~`
abbrev pub escape_of : ℕ → Option (List ℕ)
escape_of character =
    if character == 92 then Some (codes "\\e")
    else if character == 45 then Some (codes "\\-")
    else if character == 39 then Some (codes "\\(aq")
    else if character == 96 then Some (codes "\\(ga")
    else if character == 34 then Some (codes "\\(dq")
    else if character == 94 then Some (codes "\\(ha")
    else if character == 126 then Some (codes "\\(ti")
    else None

-- a character that is printed as it is
abbrev pub char_of : Option (List ℕ) → ℕ → List ℕ
char_of (Some escape) character = escape
char_of None character = encode_utf8 character

abbrev pub plain_char : ℕ → List ℕ
plain_char character = char_of (escape_of character) character

-- a text that is printed as it is
abbrev pub plain : List ℕ → List ℕ
plain text = flat_map plain_char (chars text)

-- a line of text, which is no request even if it begins with a point
abbrev pub plain_line : List ℕ → List ℕ
plain_line text = codes "\\&" ++ (plain text ++ codes "\n")

abbrev pub bold : List ℕ → List ℕ
bold text = codes "\\fB" ++ (plain text ++ codes "\\fR")

abbrev pub italic : List ℕ → List ℕ
italic text = codes "\\fI" ++ (plain text ++ codes "\\fR")

-- a request with a text as its argument
abbrev pub request : List ℕ → List ℕ → List ℕ
request name text = codes "." ++ (name ++ (codes " \"" ++ (plain text ++ codes "\"\n")))

-- a paragraph whose lines stay as they are
abbrev pub block : List ℕ → List ℕ
block text = codes ".PP\n.nf\n" ++ (flat_map plain_line (lines text) ++ codes ".fi\n")
