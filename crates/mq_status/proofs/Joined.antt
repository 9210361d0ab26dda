-- Entries of lines that are read one after another.
use Rattle.std.proofs.Common.{◌≡◌, ℕ, ◌+◌, ◌<◌, List, [], ◌∷◌, ◌++◌, length, map, drop, get_or, Option, Some, None, Result, Ok, Err, Bor, refl, ap, sym, ◌∙◌, append_assoc, arith}
use Rattle.std.proofs.lemmas.List.{at_drop_more, get_or-map, length-map}
use Rattle.mq_status.specs.Passwords.{Adds, before, lines_give, line_gives}
use Rattle.mq_status.specs.Inside.Passwords.{RefusesLine, RefusesLines}
use Rattle.mq_status.specs.declared.passwords.PasswordEntry.{PasswordEntry}
use Rattle.mq_status.specs.declared.passwords.PasswordFault.{PasswordFault}
use Rattle.mq_status.specs.declared.passwords.PasswordsError.{PasswordsError}
use Rattle.mq_status.specs.declared.passwords.PasswordsError.TheVariants as errors

-- entries, and then the entries of more lines
abbrev pub behind : List PasswordEntry → Result (List PasswordEntry) (ℕ × PasswordFault) → Result (List PasswordEntry) (ℕ × PasswordFault)
behind entries (Ok more) = Ok (entries ++ more)
behind entries (Err fault) = Err fault

pub behind_none : (more : Result (List PasswordEntry) (ℕ × PasswordFault)) → more ≡ behind [] more
behind_none (Ok more) = refl
behind_none (Err fault) = refl

abbrev pub texts : List (Bor (List ℕ)) → List (List ℕ)
texts lines = map (λ x. x.now) lines

abbrev all_of : List PasswordEntry → Result (List PasswordEntry) (ℕ × PasswordFault)
all_of entries = Ok entries

abbrev fault_at : ℕ → PasswordFault → Result (List PasswordEntry) (ℕ × PasswordFault)
fault_at number fault = Err (number, fault)

-- an entry more
pub behind_one : (entries : List PasswordEntry) (entry : PasswordEntry) (number : ℕ) (more : Result (List PasswordEntry) (ℕ × PasswordFault))
    → behind entries (before (Ok (Some entry)) number more) ≡ behind (entries ++ entry ∷ []) more
behind_one entries entry number (Ok more) = ap all_of (sym (append_assoc entries (entry ∷ []) more))
behind_one entries entry number (Err fault) = refl

-- the entries of the lines from one on
lines_at : (lines : List (Bor (List ℕ))) (number i : ℕ) (d : Bor (List ℕ)) → i < length lines
    → lines_give number (drop i (texts lines))
    ≡ before (line_gives number (get_or lines i d).now) number (lines_give (number + 1) (drop (i + 1) (texts lines)))
lines_at lines number i d low =
    at_drop_more (lines_give number) (texts lines) i d.now (omega (arith, length-map lines (λ (x : Bor (List ℕ)). x.now)))
    ∙ ap (λ (text : List ℕ). before (line_gives number text) number (lines_give (number + 1) (drop (i + 1) (texts lines))))
    (get_or-map (λ (x : Bor (List ℕ)). x.now) lines i d d.now low)

-- the entries of a line that is added
added : (gives : Result (Option PasswordEntry) PasswordFault) (old new : List PasswordEntry) (number : ℕ) (more : Result (List PasswordEntry) (ℕ × PasswordFault))
    → Adds gives old new → behind old (before gives number more) ≡ behind new more
added (Ok None) old new number more is = ap (λ (l : List PasswordEntry). behind l more) (sym is)
added (Ok (Some entry)) old new number more is =
    behind_one old entry number more ∙ ap (λ (l : List PasswordEntry). behind l more) (sym is)
added (Err fault) old new number more is = absurd is

pub line_next : (lines : List (Bor (List ℕ))) (old new : List PasswordEntry) (i : ℕ) (d : Bor (List ℕ))
    → i < length lines → lines_give 1 (texts lines) ≡ behind old (lines_give (i + 1) (drop i (texts lines)))
    → Adds (line_gives (i + 1) (get_or lines i d).now) old new
    → lines_give 1 (texts lines) ≡ behind new (lines_give (i + 1 + 1) (drop (i + 1) (texts lines)))
line_next lines old new i d low so adds =
    so ∙ ap (behind old) (lines_at lines (i + 1) i d low)
    ∙ added (line_gives (i + 1) (get_or lines i d).now) old new (i + 1) (lines_give (i + 1 + 1) (drop (i + 1) (texts lines))) adds

refused : (gives : Result (Option PasswordEntry) PasswordFault) (entries : List PasswordEntry) (number : ℕ) (all more : Result (List PasswordEntry) (ℕ × PasswordFault)) (error : PasswordsError)
    → all ≡ behind entries (before gives number more) → RefusesLine number gives error → RefusesLines all error
refused gives entries number all more (errors.Line line fault) so is =
    so ∙ ap (λ (g : Result (Option PasswordEntry) PasswordFault). behind entries (before g number more)) is.0
    ∙ ap (λ (n : ℕ). fault_at n fault) (sym is.1)
refused gives entries number all more errors.NotUtf8 so is = is
refused gives entries number all more errors.Memory so is = tt

pub line_refused : (lines : List (Bor (List ℕ))) (entries : List PasswordEntry) (i : ℕ) (d : Bor (List ℕ)) (error : PasswordsError)
    → i < length lines → lines_give 1 (texts lines) ≡ behind entries (lines_give (i + 1) (drop i (texts lines)))
    → RefusesLine (i + 1) (line_gives (i + 1) (get_or lines i d).now) error
    → RefusesLines (lines_give 1 (texts lines)) error
line_refused lines entries i d error low so is =
    refused (line_gives (i + 1) (get_or lines i d).now) entries (i + 1) (lines_give 1 (texts lines))
    (lines_give (i + 1 + 1) (drop (i + 1) (texts lines))) error (so ∙ ap (behind entries) (lines_at lines (i + 1) i d low)) is
