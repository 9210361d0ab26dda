use Rattle.std.proofs.Common.{◌≡◌, ◌+◌, ◌++◌, ℕ, List, Bor, Option, Some, None, length}
use Rattle.mq_topic.specs.Inside.Matching.{levels_left}
use Rattle.mq_topic.specs.Topic.{levels}
use Rattle.mq_topic.specs.Tree.{IsLinked, IsPlace, IsTrieOf, Leads, RowMap}
use Rattle.mq_topic.specs.Inside.Tree.{IsTrieUpTo}
use Rattle.mq_topic.specs.TrieView.{tree}
use Rattle.mq_topic.specs.declared.trie_nodes.NodeId.{NodeId}
use Rattle.mq_topic.proofs.trie_walk.open.Given as goal

-- The levels so far lead to the place, and all older paths still exist.
abbrev pub invariant-levels : goal.invariant-levels
invariant-levels l = record {
  linked : IsLinked (tree l.trie);
  place : IsPlace (tree l.trie) l.at;
  opened : (row : RowMap) → IsTrieOf row (tree l.initial.trie) → IsTrieUpTo l.at row (tree l.trie);
  leads : (from to : Option NodeId) (path : List (List ℕ)) → Leads (tree l.initial.trie) from path to → Leads (tree l.trie) from path to;
  done : (path : List (List ℕ)) × (levels l.fn.filter ≡ path ++ levels_left l.left) × Leads (tree l.trie) None path l.at;
}

-- one more than the remaining bytes
abbrev pub count_left : Option (Bor (List ℕ)) → ℕ
count_left None = 0
count_left (Some t) = length t.now + 1

abbrev pub decreases-levels : goal.decreases-levels
decreases-levels l = count_left l.left
