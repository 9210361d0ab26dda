-- Parts of a text, and the values in them. Only proofs cite these definitions.
use Rattle.std.specs.Prelude.{ℕ, ◌≤◌, List, ◌∷◌, [], Option, Some, None}
use Rattle.std.specs.Borrow.{Bor}
use Rattle.mq_schedule.specs.Schedule.{IsNumber}

-- the last word, if there is one
abbrev pub last_word : Option (Bor (List ℕ)) → List (List ℕ)
last_word None = []
last_word (Some word) = word.now ∷ []

-- how many packet identifiers may be in use (2.3.1)
pub record IsCapacity (value : ℕ) (word : List ℕ) : Type 0 where
  pub number : IsNumber value word
  pub least : 1 ≤ value
  pub most : value ≤ 65535
