-- The clients that a walk along a name finds in a trie.
use Rattle.std.specs.Prelude.{◌≡◌, ◌⊎◌, ℕ, true, List, [], ◌∷◌, Option, Some}
use Rattle.mq_topic.specs.Matching.{fits}
use Rattle.mq_topic.specs.Qos.{greater}
use Rattle.mq_topic.specs.Rows.{qos_of}
use Rattle.mq_topic.specs.Tree.{Leads, Tree, client_from}
use Rattle.mq_topic.specs.declared.qos.Qos.{Qos}
use Rattle.mq_topic.specs.declared.trie_nodes.NodeId.{NodeId}

-- Clients with their QoS.
abbrev pub Entries : Type 0
Entries = List (ℕ × Qos)

-- A client is found with this QoS or a greater one.
abbrev pub Covers : Entries → ℕ → Qos → Type 0
Covers found client qos = (reached : Qos) × (qos_of client found ≡ Some reached) × (greater qos reached ≡ reached)

-- More clients were added, each with a QoS.
pub record Gathers (More : ℕ → Qos → Type 0) (old new : Entries) : Type 0 where
  pub kept : (client : ℕ) (qos : Qos) → Covers old client qos → Covers new client qos
  pub finds : (client : ℕ) (qos : Qos) → More client qos → Covers new client qos
  pub sound : (client : ℕ) (qos : Qos) → qos_of client new ≡ Some qos → (qos_of client old ≡ Some qos) ⊎ More client qos

-- It holds for one of the places.
abbrev pub Among : (Option NodeId → Type 0) → List (Option NodeId) → Type 0
Among P [] = ⊥
Among P (at ∷ places) = P at ⊎ Among P places

-- The client is stored at the place with this QoS.
abbrev pub IsAt : Tree → Option NodeId → ℕ → Qos → Type 0
IsAt tree at client qos = client_from tree at client ≡ Some qos

-- The place is this node.
abbrev pub IsThere : Option NodeId → Option NodeId → Type 0
IsThere at to = (node : NodeId) × (at ≡ Some node) × (to ≡ Some node)

-- One level of a name leads from one place to the other.
abbrev pub Steps : Tree → List ℕ → Option NodeId → Option NodeId → Type 0
Steps tree level to at = IsThere (tree.child at (43 ∷ [])) to ⊎ IsThere (tree.child at level) to

-- A filter that matches the remaining levels of a name leads from the place to the client.
abbrev pub Finds : Tree → Option NodeId → List (List ℕ) → ℕ → Qos → Type 0
Finds tree from name client qos = (path : List (List ℕ)) × (to : Option NodeId) × Leads tree from path to × (fits path name ≡ true) × IsAt tree to client qos
