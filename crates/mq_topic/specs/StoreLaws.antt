-- The laws of every store of subscriptions.
use Rattle.std.specs.Prelude.{◌≡◌, ℕ, List, None, if◌then◌else◌, ◌==◌, Some}
use Rattle.mq_topic.specs.Rows.{IsAscending, IsMatched, Row, greatest, is_key, matched, matching_qos, qos_of, row_qos, with_row, without_client, without_row}
use Rattle.mq_topic.specs.declared.qos.Qos.{Qos}

pub record StoreLaws : Type 0 where
  -- The QoS of each row after one is set or removed.
  pub set : (client : ℕ) (filter : List ℕ) (qos : Qos) (rows : List Row) (other : ℕ) (other_filter : List ℕ)
      → row_qos other other_filter (with_row client filter qos rows) ≡ (if is_key other other_filter (client, filter) then Some qos else row_qos other other_filter rows)
  pub removed : (client : ℕ) (filter : List ℕ) (rows : List Row) (other : ℕ) (other_filter : List ℕ)
      → row_qos other other_filter (without_row client filter rows) ≡ (if is_key other other_filter (client, filter) then None else row_qos other other_filter rows)
  pub removed_client : (client : ℕ) (rows : List Row) (other : ℕ) (other_filter : List ℕ)
      → row_qos other other_filter (without_client client rows) ≡ (if other == client then None else row_qos other other_filter rows)
  -- Ordered rows stay ordered.
  pub set_ascending : (client : ℕ) (filter : List ℕ) (qos : Qos) (rows : List Row) → IsAscending rows → IsAscending (with_row client filter qos rows)
  pub removed_ascending : (client : ℕ) (filter : List ℕ) (rows : List Row) → IsAscending rows → IsAscending (without_row client filter rows)
  pub removed_client_ascending : (client : ℕ) (rows : List Row) → IsAscending rows → IsAscending (without_client client rows)
  -- Ordered rows with the same QoS for each client and filter are equal.
  pub one_list : (rows others : List Row) → IsAscending rows → IsAscending others
      → ((client : ℕ) (filter : List ℕ) → row_qos client filter rows ≡ row_qos client filter others) → rows ≡ others
  -- `matched` has the greatest QoS of each client's matching rows, or no entry.
  pub greatest_qos : (name : List ℕ) (rows : List Row) (client : ℕ) → qos_of client (matched name rows) ≡ greatest (matching_qos client name rows)
  -- The clients are ordered, and no other list meets these conditions.
  pub matched_is : (name : List ℕ) (rows : List Row) → IsMatched name rows (matched name rows)
  pub matched_once : (name : List ℕ) (rows : List Row) (found : List (ℕ × Qos)) → IsMatched name rows found → found ≡ matched name rows
