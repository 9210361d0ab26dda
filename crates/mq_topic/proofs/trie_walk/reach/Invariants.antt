use Rattle.std.proofs.Common.{◌+◌, ◌↔◌, ℕ, List, Bor, Option, Some, None, length}
use Rattle.mq_topic.specs.Inside.Matching.{levels_left}
use Rattle.mq_topic.specs.Topic.{levels}
use Rattle.mq_topic.specs.Tree.{Leads}
use Rattle.mq_topic.specs.TrieView.{tree}
use Rattle.mq_topic.specs.declared.trie_nodes.NodeId.{NodeId}
use Rattle.mq_topic.proofs.trie_walk.reach.Given as goal

-- The remaining levels lead to the same place as all levels.
abbrev pub invariant-levels : goal.invariant-levels
invariant-levels l = (to : Option NodeId) → Leads (tree l.trie) None (levels l.fn.filter) to ↔ Leads (tree l.trie) l.at (levels_left l.left) to

-- one more than the remaining bytes
abbrev pub count_left : Option (Bor (List ℕ)) → ℕ
count_left None = 0
count_left (Some t) = length t.now + 1

abbrev pub decreases-levels : goal.decreases-levels
decreases-levels l = count_left l.left
