use Rattle.std.proofs.Common.{take}
use Rattle.mq_topic.specs.Inside.Found.{Among, Gathers, IsAt}
use Rattle.mq_topic.specs.TrieView.{tree}
use Rattle.mq_topic.proofs.trie_walk.gather_ends.Given as goal

abbrev pub invariant-nodes : goal.invariant-nodes
invariant-nodes l = Gathers (λ c q. Among (λ at. IsAt (tree l.trie) at c q) (take l.at-index l.nodes)) l.initial.found.entries l.found.entries
