-- Sets of places.
use Rattle.std.specs.Prelude.{◌≡◌, ℕ, Bool, true, false, List, nat_eq, slice_index_or}
use Rattle.std.specs.List.{list_any}

-- the place is in the set
abbrev pub is_in : ℕ → List Bool → Bool
is_in place flags = slice_index_or flags place false

-- the list names each place of the set
abbrev pub AreListed : List Bool → List ℕ → Type 0
AreListed flags listed = (place : ℕ) → is_in place flags ≡ true → list_any (nat_eq place) listed ≡ true
