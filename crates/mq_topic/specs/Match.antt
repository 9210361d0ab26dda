-- The relation between topic filters and the topic names that they match, in the standard's terms
-- (4.7).
use Rattle.std.specs.Prelude.{◌≡◌, ◌⊎◌, ℕ, List, [], ◌∷◌}
use Rattle.mq_topic.specs.Topic.{levels}

-- The levels of a filter match those of a name. 43 is `+`, 35 is `#`.
pub data Fits : List (List ℕ) → List (List ℕ) → Type 0 where
  -- Both end.
  Ends : Fits [] []
  -- `#` matches all remaining levels, also none.
  AllLeft : (name : List (List ℕ)) → Fits ((35 ∷ []) ∷ []) name
  -- `+` matches any one level.
  AnyLevel : (level : List ℕ) (filter name : List (List ℕ)) → Fits filter name → Fits ((43 ∷ []) ∷ filter) (level ∷ name)
  -- Any other level matches itself.
  SameLevel : (level : List ℕ) (filter name : List (List ℕ)) → Fits filter name → Fits (level ∷ filter) (level ∷ name)

abbrev pub BeginsWith : List ℕ → ℕ → Type 0
BeginsWith text byte = (rest : List ℕ) × (text ≡ byte ∷ rest)

-- The levels match, and no filter that begins with a wildcard matches a name that begins with `$`
-- (4.7.2).
pub record Match (filter name : List ℕ) : Type 0 where
  pub fits : Fits (levels filter) (levels name)
  pub shown : BeginsWith filter 43 ⊎ BeginsWith filter 35 → BeginsWith name 36 → ⊥
