-- The prefixes of the levels of filters: a trie has a node for each.
use Rattle.std.specs.Prelude.{◌≡◌, ◌≢◌, ◌↔◌, ℕ, List, [], ◌++◌, length, IsSome, Contains, AllPairs}
use Rattle.mq_topic.specs.Rows.{Row, row_qos}
use Rattle.mq_topic.specs.Topic.{levels}

-- A list of levels.
abbrev pub Path : Type 0
Path = List (List ℕ)

-- The levels of some row's filter begin with this path, which has at least one level.
abbrev pub IsPrefix : List Row → Path → Type 0
IsPrefix rows path =
    (client : ℕ) × (filter : List ℕ) × (rest : Path)
    × IsSome (row_qos client filter rows) × (levels filter ≡ path ++ rest) × (path ≢ [])

-- The rows have this number of distinct prefixes.
pub record PrefixCount (rows : List Row) (count : ℕ) : Type 0 where
  -- A list of the prefixes, and of nothing else.
  pub paths : List Path
  pub prefixes : (path : Path) → Contains paths path ↔ IsPrefix rows path
  -- Each occurs once in the list.
  pub distinct : AllPairs (λ first second. first ≢ second) paths
  pub length : length paths ≡ count
