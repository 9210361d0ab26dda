-- The view of the nodes of a trie.
use Rattle.std.specs.Prelude.{ℕ, List, Option, Some, None}
use Rattle.std.specs.Arc.{arc_str_bytes}
use Rattle.std.specs.Option.{option_map, option_map_or}
use Rattle.slab.specs.Slab.{get}
use Rattle.mq_topic.specs.NodeView.{child_in, client_in}
use Rattle.mq_topic.specs.Tree.{Tree}
use Rattle.mq_topic.specs.declared.qos.Qos.{Qos}
use Rattle.mq_topic.specs.declared.trie_nodes.Node.{Node}
use Rattle.mq_topic.specs.declared.trie_nodes.NodeId.{NodeId}
use Rattle.mq_topic.specs.declared.trie_nodes.Trie.{Trie}

abbrev pub node_of : Trie → NodeId → Option Node
node_of trie id = get trie.nodes id.0

abbrev pub child_at : List ℕ → Node → Option NodeId
child_at level node = child_in level node.children

abbrev pub child_of : Trie → Option NodeId → List ℕ → Option NodeId
child_of trie None level = child_in level trie.top
child_of trie (Some id) level = option_map_or (child_at level) (node_of trie id) None

abbrev pub link_in : Node → Option NodeId × List ℕ
link_in node = (node.parent, arc_str_bytes node.level)

abbrev pub client_at : ℕ → Node → Option Qos
client_at client node = client_in client node.clients

abbrev pub client_of : Trie → NodeId → ℕ → Option Qos
client_of trie id client = option_map_or (client_at client) (node_of trie id) None

abbrev pub tree : Trie → Tree
tree trie = record { link = λ id. option_map link_in (node_of trie id); child = child_of trie; client = client_of trie }
