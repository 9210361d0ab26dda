use Rattle.slab.specs.Slab.{slab_len}
use Rattle.mq_topic.specs.Tree.{RowMap}
use Rattle.mq_topic.specs.Inside.Tree.{IsTrieUpTo}
use Rattle.mq_topic.specs.TrieView.{tree}
use Rattle.mq_topic.proofs.trie_walk.prune.Given as goal

abbrev pub invariant-nodes : goal.invariant-nodes
invariant-nodes l = (row : RowMap) → IsTrieUpTo l.fn.from row (tree l.initial.trie) → IsTrieUpTo l.at row (tree l.trie)

abbrev pub decreases-nodes : goal.decreases-nodes
decreases-nodes l = slab_len l.trie.nodes
