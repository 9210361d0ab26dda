-- The rows of a store, grouped by client.
use Rattle.std.specs.Prelude.{ℕ, List, [], ◌∷◌, ◌++◌, IsTrue}
use Rattle.std.specs.BTreeMap.{BTreeMap}
use Rattle.std.specs.Cmp.Lexicographic.{slice_cmp}
use Rattle.std.specs.FinMap.{is_sorted}
use Rattle.std.specs.Ordering.{nat_cmp}
use Rattle.mq_topic.specs.Rows.{Row}
use Rattle.mq_topic.specs.declared.qos.Qos.{Qos}

-- The rows of one client.
abbrev pub own_rows : ℕ → List (List ℕ × Qos) → List Row
own_rows client [] = []
own_rows client (entry ∷ entries) = ((client, entry.0), entry.1) ∷ own_rows client entries

-- The rows of all clients.
abbrev pub rows_of : List (ℕ × BTreeMap (List ℕ) Qos) → List Row
rows_of [] = []
rows_of (entry ∷ entries) = own_rows entry.0 entry.1.entries ++ rows_of entries

-- The filters of each client are ordered.
abbrev pub FiltersAscend : List (ℕ × BTreeMap (List ℕ) Qos) → Type 0
FiltersAscend [] = Unit {0}
FiltersAscend (entry ∷ entries) = IsTrue (is_sorted (slice_cmp nat_cmp) entry.1.entries) × FiltersAscend entries

-- The clients are ordered, and the filters of each client.
pub record AreClientRows (entries : List (ℕ × BTreeMap (List ℕ) Qos)) : Type 0 where
  pub clients : IsTrue (is_sorted nat_cmp entries)
  pub filters : FiltersAscend entries
