-- A trie of levels: nodes below a root, the clients stored at them, and the rows that it
-- represents. Only proofs cite these definitions.
use Rattle.std.specs.Prelude.{◌≡◌, ◌⊎◌, ℕ, List, Option, Some, None, IsSome, if◌then◌else◌, ◌==◌}
use Rattle.mq_topic.specs.Rows.{is_key}
use Rattle.mq_topic.specs.declared.qos.Qos.{Qos}
use Rattle.mq_topic.specs.declared.trie_nodes.NodeId.{NodeId}
use Rattle.mq_topic.specs.Tree.{Tree, Leads, RowMap, IsRowPath, IsLinked, IsNeeded, StandsFor}

-- The same, except that nodes on the way to one place may be unneeded.
pub record IsTrieUpTo (at : Option NodeId) (row : RowMap) (tree : Tree) : Type 0 where
  pub linked : IsLinked tree
  pub stands : StandsFor row tree
  pub leads : (path : List (List ℕ)) × Leads tree None path at
  pub needed : IsNeeded tree (λ path. Leads tree None path at ⊎ IsRowPath row path)

-- The rows with one row set.
abbrev pub row_with : ℕ → List ℕ → Qos → RowMap → RowMap
row_with client filter qos row other other_filter = if is_key other other_filter (client, filter) then Some qos else row other other_filter

-- The rows without those of a client.
abbrev pub without_all : ℕ → RowMap → RowMap
without_all client row other other_filter = if other == client then None else row other other_filter

-- Both have the same queries.
pub record SameTree (old new : Tree) : Type 0 where
  pub link : (node : NodeId) → new.link node ≡ old.link node
  pub child : (at : Option NodeId) (level : List ℕ) → new.child at level ≡ old.child at level
  pub client : (node : NodeId) (client : ℕ) → new.client node client ≡ old.client node client

-- At one place and level the child is this one; nothing else changes.
pub record ChildIs (at : Option NodeId) (level : List ℕ) (child : Option NodeId) (old new : Tree) : Type 0 where
  pub link : (node : NodeId) → new.link node ≡ old.link node
  pub same : new.child at level ≡ child
  pub others : (other_place : Option NodeId) (other_level : List ℕ) → ((other_place ≡ at) × (other_level ≡ level) → ⊥) → new.child other_place other_level ≡ old.child other_place other_level
  pub client : (node : NodeId) (client : ℕ) → new.client node client ≡ old.client node client

-- A node was added.
pub record Grown (at : Option NodeId) (level : List ℕ) (node : NodeId) (old new : Tree) : Type 0 where
  pub fresh : old.link node ≡ None
  pub link : new.link node ≡ Some (at, level)
  pub links : (other : NodeId) → (other ≡ node → ⊥) → new.link other ≡ old.link other
  pub same : new.child at level ≡ Some node
  pub others : (other_place : Option NodeId) (other_level : List ℕ) → ((other_place ≡ at) × (other_level ≡ level) → ⊥) → new.child other_place other_level ≡ old.child other_place other_level
  pub client : (other : NodeId) (client : ℕ) → new.client other client ≡ old.client other client

-- A node has no child and no client.
pub record IsBare (tree : Tree) (node : NodeId) : Type 0 where
  pub child : (level : List ℕ) → tree.child (Some node) level ≡ None
  pub client : (client : ℕ) → tree.client node client ≡ None

-- A node has a child or a client.
abbrev pub IsUsed : Tree → NodeId → Type 0
IsUsed tree node = ((level : List ℕ) × IsSome (tree.child (Some node) level)) ⊎ ((client : ℕ) × IsSome (tree.client node client))

-- The QoS of a client at a node changes; nothing else does.
pub record ClientIs (node : NodeId) (key : ℕ) (qos : Option Qos) (old new : Tree) : Type 0 where
  pub link : (other : NodeId) → new.link other ≡ old.link other
  pub child : (at : Option NodeId) (level : List ℕ) → new.child at level ≡ old.child at level
  pub client : new.client node key ≡ qos
  pub others : (other : NodeId) (other_key : ℕ) → ((other ≡ node) × (other_key ≡ key) → ⊥) → new.client other other_key ≡ old.client other other_key
