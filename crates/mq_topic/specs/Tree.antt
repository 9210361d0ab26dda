-- A trie of levels: nodes below a root, the clients stored at them, and the rows that it
-- represents.
use Rattle.std.specs.Prelude.{◌≡◌, ℕ, List, [], ◌∷◌, ◌++◌, Option, Some, None, IsSome, if◌then◌else◌}
use Rattle.mq_topic.specs.Rows.{is_key}
use Rattle.mq_topic.specs.Topic.{levels}
use Rattle.mq_topic.specs.declared.qos.Qos.{Qos}
use Rattle.mq_topic.specs.declared.trie_nodes.NodeId.{NodeId}

-- The queries of a trie. `None` is the root.
pub record Tree : Type 0 where
  -- The parent of a node, and its level there.
  pub link : NodeId → Option (Option NodeId × List ℕ)
  -- The child of a node or of the root at a level.
  pub child : Option NodeId → List ℕ → Option NodeId
  -- The QoS of a client at a node.
  pub client : NodeId → ℕ → Option Qos

-- The levels lead from one place to the other.
abbrev pub Leads : Tree → Option NodeId → List (List ℕ) → Option NodeId → Type 0
Leads tree from [] to = from ≡ to
Leads tree from (level ∷ path) to = (node : NodeId) × (tree.child from level ≡ Some node) × Leads tree (Some node) path to

-- The root or an existing node.
abbrev pub IsPlace : Tree → Option NodeId → Type 0
IsPlace tree None = Unit {0}
IsPlace tree (Some node) = IsSome (tree.link node)

-- The QoS of each client and filter with a row.
abbrev pub RowMap : Type 0
RowMap = ℕ → List ℕ → Option Qos

-- The levels of the filter of some row.
abbrev pub IsRowPath : RowMap → List (List ℕ) → Type 0
IsRowPath row path = (client : ℕ) × (filter : List ℕ) × (qos : Qos) × (row client filter ≡ Some qos) × (levels filter ≡ path)

-- Each child knows its parent and its level.
pub record IsLinked (tree : Tree) : Type 0 where
  pub child : (at : Option NodeId) (level : List ℕ) (node : NodeId) → tree.child at level ≡ Some node → tree.link node ≡ Some (at, level)
  pub place : (at : Option NodeId) (level : List ℕ) (node : NodeId) → tree.child at level ≡ Some node → IsPlace tree at

-- Each node lies on one of these paths.
abbrev pub IsNeeded : Tree → (List (List ℕ) → Type 0) → Type 0
IsNeeded tree Path = (node : NodeId) → IsSome (tree.link node)
    → (path rest : List (List ℕ)) × Leads tree None path (Some node) × Path (path ++ rest)

-- The client of a row is stored at the node to which the levels of its filter lead, with its QoS.
pub record StandsFor (rows : RowMap) (tree : Tree) : Type 0 where
  pub row : (client : ℕ) (filter : List ℕ) (qos : Qos) → rows client filter ≡ Some qos → (node : NodeId) × Leads tree None (levels filter) (Some node) × (tree.client node client ≡ Some qos)
  pub client : (node : NodeId) (client : ℕ) (qos : Qos) → tree.client node client ≡ Some qos → (filter : List ℕ) × Leads tree None (levels filter) (Some node) × (rows client filter ≡ Some qos)

-- The trie represents these rows, and has no node that no row needs.
pub record IsTrieOf (row : RowMap) (tree : Tree) : Type 0 where
  pub linked : IsLinked tree
  pub stands : StandsFor row tree
  pub needed : IsNeeded tree (IsRowPath row)

-- The rows without one row.
abbrev pub without : ℕ → List ℕ → RowMap → RowMap
without client filter row other other_filter = if is_key other other_filter (client, filter) then None else row other other_filter

-- ---- how a trie changes

-- A node was removed.
pub record Cut (at : Option NodeId) (level : List ℕ) (node : NodeId) (old new : Tree) : Type 0 where
  pub link : new.link node ≡ None
  pub links : (other : NodeId) → (other ≡ node → ⊥) → new.link other ≡ old.link other
  pub same : new.child at level ≡ None
  pub others : (other_place : Option NodeId) (other_level : List ℕ) → ((other_place ≡ at) × (other_level ≡ level) → ⊥) → new.child other_place other_level ≡ old.child other_place other_level
  pub client : (other : NodeId) (client : ℕ) → new.client other client ≡ old.client other client

-- The QoS of a client at a place; the root has none.
abbrev pub client_from : Tree → Option NodeId → ℕ → Option Qos
client_from tree None client = None
client_from tree (Some node) client = tree.client node client
