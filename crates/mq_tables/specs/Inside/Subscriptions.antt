-- Setting the subscriptions of a client, and putting them back (3.8.4). Only proofs cite these
-- definitions.
use Rattle.std.specs.Prelude.{ℕ, List, [], ◌∷◌, Option, Some, None, ◌≡◌, true, is_some}
use Rattle.mq_topic.specs.Rows.{Row, with_row, without_row, row_qos}
use Rattle.mq_topic.specs.declared.qos.Qos.{Qos}

-- a row before it was set: its filter, and its quality of service if it existed
abbrev pub Before : Type 0
Before = List ℕ × Option Qos

-- the rows with that one as it was
abbrev pub row_back : ℕ → List ℕ → Option Qos → List Row → List Row
row_back key topic_filter None rows = without_row key topic_filter rows
row_back key topic_filter (Some qos) rows = with_row key topic_filter qos rows

-- the rows with all of these as they were, the last one set back first
abbrev pub rows_back : ℕ → List Before → List Row → List Row
rows_back key [] rows = rows
rows_back key (first ∷ rest) rows = row_back key first.0 first.1 (rows_back key rest rows)

-- a row that existed exists
abbrev pub IsThere : ℕ → List ℕ → Option Qos → List Row → Type 0
IsThere key topic_filter None rows = Unit {0}
IsThere key topic_filter (Some qos) rows = is_some (row_qos key topic_filter rows) ≡ true

-- each of these that existed exists when it is set back
abbrev pub AreThere : ℕ → List Before → List Row → Type 0
AreThere key [] rows = Unit {0}
AreThere key (first ∷ rest) rows = IsThere key first.0 first.1 (rows_back key rest rows) × AreThere key rest rows
