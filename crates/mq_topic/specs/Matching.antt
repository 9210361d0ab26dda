-- Matching as a function (4.7).
use Rattle.std.specs.Prelude.{ℕ, Bool, true, false, not, ◌&&◌, ◌||◌, List, [], ◌∷◌, ◌==◌}
use Rattle.std.specs.Str.{bytes_eq}
use Rattle.mq_topic.specs.Topic.{is_wildcard, levels}

-- The levels `+` and `#`.
abbrev pub is_plus_level : List ℕ → Bool
is_plus_level level = bytes_eq level (43 ∷ [])

abbrev pub is_hash_level : List ℕ → Bool
is_hash_level level = bytes_eq level (35 ∷ [])

-- A level of a filter matches a level of a name: it is the same, or `+` (4.7.1.3).
abbrev pub fits_level : List ℕ → List ℕ → Bool
fits_level filter_level name_level = is_plus_level filter_level || bytes_eq filter_level name_level

-- The rest of the filter is `#`, which matches any number of levels (4.7.1.2).
abbrev pub is_hash_alone : List (List ℕ) → Bool
is_hash_alone [] = false
is_hash_alone (level ∷ []) = is_hash_level level
is_hash_alone (level ∷ next ∷ rest) = false

-- The levels of a filter match those of a name: `#` matches all; other levels one by one to the end
-- of both.
abbrev pub fits : List (List ℕ) → List (List ℕ) → Bool
fits [] [] = true
fits [] (name_level ∷ name) = false
fits (filter_level ∷ filter) [] = is_hash_alone (filter_level ∷ filter)
fits (filter_level ∷ filter) (name_level ∷ name) = is_hash_alone (filter_level ∷ filter) || (fits_level filter_level name_level && fits filter name)

-- The first byte of a text passes the test.
abbrev pub begins : (ℕ → Bool) → List ℕ → Bool
begins test [] = false
begins test (byte ∷ rest) = test byte

abbrev pub is_dollar : ℕ → Bool
is_dollar byte = byte == 36

-- A filter that begins with a wildcard meets a name that begins with `$` (4.7.2).
abbrev pub is_hidden : List ℕ → List ℕ → Bool
is_hidden filter name = begins is_wildcard filter && begins is_dollar name

-- The filter matches the name.
abbrev pub is_match : List ℕ → List ℕ → Bool
is_match filter name = fits (levels filter) (levels name) && not (is_hidden filter name)
