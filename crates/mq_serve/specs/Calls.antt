-- Calls of workers.
use Rattle.std.specs.Prelude.{ℕ, ◌+◌, Bool, if◌then◌else◌, List, [], ◌∷◌}

-- The numbers of the items for which this test of a number and an item is true. The items are
-- numbered in order, from `first` on.
abbrev pub numbers_from : {A : Type 0} → (ℕ → A → Bool) → ℕ → List A → List ℕ
numbers_from test first [] = []
numbers_from test first (item ∷ items) =
    let rest = numbers_from test (first + 1) items in if test first item then first ∷ rest else rest
