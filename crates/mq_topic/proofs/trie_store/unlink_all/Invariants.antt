use Rattle.std.proofs.Common.{◌≡◌, ℕ, List, T}
use Rattle.std.specs.Cmp.Lexicographic.{slice_cmp}
use Rattle.std.specs.FinMap.{find, is_sorted}
use Rattle.std.specs.Ordering.{nat_cmp}
use Rattle.mq_topic.specs.Tree.{IsTrieOf, RowMap}
use Rattle.mq_topic.specs.TrieView.{tree}
use Rattle.mq_topic.proofs.Leaving.{left_of}
use Rattle.mq_topic.proofs.trie_store.unlink_all.Given as goal

-- the rows of the others are there, and the client's that remain
abbrev pub invariant-rows : goal.invariant-rows
invariant-rows l = record {
  ascending : T (is_sorted (slice_cmp nat_cmp) l.filter-iterator);
  stands : (row : RowMap) → ((f : List ℕ) → row l.client f ≡ find (slice_cmp nat_cmp) f l.own.entries) → IsTrieOf row (tree l.initial.trie) → IsTrieOf (left_of row l.client l.filter-iterator) (tree l.trie);
}
