use Rattle.std.proofs.Common.{◌+◌, ℕ, List, Bor, Option, Some, None, length}
use Rattle.mq_topic.specs.Inside.Found.{Among, Finds}
use Rattle.mq_topic.specs.Inside.Matching.{levels_left}
use Rattle.mq_topic.specs.TrieView.{tree}
use Rattle.mq_topic.proofs.Walking.{IsWalked}
use Rattle.mq_topic.proofs.trie_walk.walk_on.Given as goal

abbrev pub invariant-levels : goal.invariant-levels
invariant-levels l = IsWalked (tree l.trie) (λ c q. Among (λ at. Finds (tree l.trie) at (levels_left l.fn.name) c q) l.fn.from.items) l.initial.found.entries l.found.entries l.nodes.items (levels_left l.left)

-- one more than the remaining bytes
abbrev pub count_left : Option (Bor (List ℕ)) → ℕ
count_left None = 0
count_left (Some t) = length t.now + 1

abbrev pub decreases-levels : goal.decreases-levels
decreases-levels l = count_left l.left
