use Rattle.std.proofs.Common.{◌≤◌, arith, length, sum_by, subst}
use Rattle.slab.specs.Slab.{slab_len}
use Rattle.mq_topic.specs.Prefixes.{PrefixCount}
use Rattle.mq_topic.specs.Topic.{levels}
use Rattle.mq_topic.proofs.Counting.{node_bound}
use Rattle.mq_topic.proofs.Prefixes.{prefix_count}
use Rattle.mq_topic.proofs.trie_store.TrieStore.nodes.Goals as goal

pub returns-clause-count : goal.returns-clause-count
returns-clause-count c =
    let trie = c.self.inside.trie in
    let count = subst (λ rows. PrefixCount rows (slab_len trie.nodes)) c.self.view_is (prefix_count c.self.inside.rows trie c.self.invariant.1) in
    (slab_len trie.nodes, count, omega (arith, c.len.ensures, c.saturating_add.ensures))

pub returns-clause-bound : goal.returns-clause-bound
returns-clause-bound c =
    let bound = subst (λ rows. slab_len c.self.inside.trie.nodes ≤ sum_by (λ r. length (levels r.0.1)) rows) c.self.view_is (node_bound c.self.inside.rows c.self.inside.trie c.self.invariant.1) in
    omega (arith, bound, c.len.ensures, c.saturating_add.ensures)
