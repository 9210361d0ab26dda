-- The rows of a store of subscriptions: a map from client and filter to QoS, as the ordered list of
-- its rows.
use Rattle.std.specs.Prelude.{◌≡◌, ℕ, Bool, not, ◌&&◌, List, [], ◌∷◌, map, filter, Option, Some, None, ◌==◌, IsTrue, if◌then◌else◌}
use Rattle.std.specs.Cmp.Lexicographic.{slice_cmp}
use Rattle.std.specs.FinMap.{find, is_sorted, put}
use Rattle.std.specs.Ordering.{eq_by_cmp, nat_cmp, on, then_cmp}
use Rattle.std.specs.declared.cmp.Ordering.{Ordering}
use Rattle.mq_topic.specs.Matching.{is_match}
use Rattle.mq_topic.specs.Qos.{greater}
use Rattle.mq_topic.specs.declared.qos.Qos.{Qos}

-- A client and a filter.
abbrev pub Key : Type 0
Key = ℕ × List ℕ

-- A key with the maximum QoS that the client asked for.
abbrev pub Row : Type 0
Row = Key × Qos

-- Keys are ordered by client, then by the bytes of the filter.
abbrev pub key_cmp : Key → Key → Ordering
key_cmp = then_cmp (on (λ key. key.0) nat_cmp) (on (λ key. key.1) (slice_cmp nat_cmp))

abbrev pub is_key : ℕ → List ℕ → Key → Bool
is_key client filter = eq_by_cmp key_cmp (client, filter)

-- Each row comes before the rows behind it.
abbrev pub IsAscending : List Row → Type 0
IsAscending rows = IsTrue (is_sorted key_cmp rows)

-- The QoS of a client and a filter.
abbrev pub row_qos : ℕ → List ℕ → List Row → Option Qos
row_qos client filter rows = find key_cmp (client, filter) rows

-- The rows with one row set: inserted in order, or with the new QoS if it exists.
abbrev pub with_row : ℕ → List ℕ → Qos → List Row → List Row
with_row client filter qos rows = put key_cmp (client, filter) qos rows

-- The rows without one row, and without the rows of a client.
abbrev pub without_row : ℕ → List ℕ → List Row → List Row
without_row client topic_filter rows = filter (λ row. not (is_key client topic_filter row.0)) rows

abbrev pub without_client : ℕ → List Row → List Row
without_client client rows = filter (λ row. not (row.0.0 == client)) rows

-- ---- The rows that match a name

-- The greater of a QoS and an optional one; the greatest of several.
abbrev pub greater_of : Qos → Option Qos → Qos
greater_of qos None = qos
greater_of qos (Some other) = greater other qos

abbrev pub greatest : List Qos → Option Qos
greatest [] = None
greatest (qos ∷ rest) = Some (greater_of qos (greatest rest))

-- The QoS of each row of a client whose filter matches the name.
abbrev pub matching_qos : ℕ → List ℕ → List Row → List Qos
matching_qos client name rows = map (λ row. row.1) (filter (λ row. (row.0.0 == client) && is_match row.0.1 name) rows)

-- The QoS of a client in a list.
abbrev pub qos_of : ℕ → List (ℕ × Qos) → Option Qos
qos_of client found = find nat_cmp client found

-- Each client with a matching row, once, with the greatest QoS of its matching rows (3.3.5).
pub record IsMatched (name : List ℕ) (rows : List Row) (found : List (ℕ × Qos)) : Type 0 where
  -- The clients are ordered, so each occurs once.
  pub ascending : IsTrue (is_sorted nat_cmp found)
  -- A client has the greatest QoS of its matching rows, and no entry if none matches.
  pub greatest : (client : ℕ) → qos_of client found ≡ greatest (matching_qos client name rows)

-- The only such list, computed row by row.
abbrev pub matched : List ℕ → List Row → List (ℕ × Qos)
matched name [] = []
matched name (row ∷ rows) =
    let found = matched name rows in
    if is_match row.0.1 name then put nat_cmp row.0.0 (greater_of row.1 (qos_of row.0.0 found)) found else found
