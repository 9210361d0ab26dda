-- The queries of a node of a trie: its children and its clients. Only proofs cite these
-- definitions.
use Rattle.std.specs.Prelude.{◌≡◌, ℕ, Bool, true, List, Option}
use Rattle.std.specs.Arc.{arc_str_bytes}
use Rattle.std.specs.Option.{option_map_or}
use Rattle.std.specs.Str.{bytes_eq}
use Rattle.mq_topic.specs.declared.children.Children.{Children}
use Rattle.mq_topic.specs.declared.clients.Clients.{Clients}
use Rattle.mq_topic.specs.declared.level_map.Child.{Child}
use Rattle.mq_topic.specs.declared.qos.Qos.{Qos}
use Rattle.mq_topic.specs.declared.trie_nodes.NodeId.{NodeId}
use Rattle.mq_topic.specs.NodeView.{child_in, client_in}

-- The node's own child is the one at this level, or does not exist.
abbrev pub is_own : List ℕ → Option Child → Bool
is_own level first = option_map_or (λ (child : Child). bytes_eq level (arc_str_bytes child.level)) first true

-- The child at one level changes; the others stay.
pub record ChildIn (level : List ℕ) (child : Option NodeId) (old new : Children) : Type 0 where
  pub same : child_in level new ≡ child
  pub others : (other_level : List ℕ) → (other_level ≡ level → ⊥) → child_in other_level new ≡ child_in other_level old

-- The QoS of one client changes; the others stay.
pub record ClientIn (client : ℕ) (qos : Option Qos) (old new : Clients) : Type 0 where
  pub same : client_in client new ≡ qos
  pub others : (other : ℕ) → (other ≡ client → ⊥) → client_in other new ≡ client_in other old
