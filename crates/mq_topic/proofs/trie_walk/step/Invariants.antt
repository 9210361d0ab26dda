use Rattle.std.proofs.Common.{◌≡◌, ◌↔◌, Option, take}
use Rattle.mq_topic.specs.Inside.Found.{Among, Steps}
use Rattle.mq_topic.specs.TrieView.{tree}
use Rattle.mq_topic.specs.declared.trie_nodes.NodeId.{NodeId}
use Rattle.mq_topic.proofs.trie_walk.step.Given as goal

abbrev pub invariant-nodes : goal.invariant-nodes
invariant-nodes l = (to : Option NodeId) → Among (λ at. at ≡ to) l.next.items ↔ Among (Steps (tree l.trie) l.level to) (take l.at-index l.nodes)
