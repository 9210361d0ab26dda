use Rattle.std.proofs.Common.{◌∷◌, [], arith, subst}
use Rattle.mq_topic.specs.Inside.Found.{Gathers, IsAt}
use Rattle.mq_topic.specs.TrieView.{child_of, tree}
use Rattle.mq_topic.proofs.Gathering.{gather_done, gather_more}
use Rattle.mq_topic.proofs.trie_walk.gather_rests.Goals as goal

pub nodes-preserved : goal.nodes-preserved
nodes-preserved c =
    let trie = c.args.trie.now in
    gather_more (λ at x q. IsAt (tree trie) (child_of trie at (35 ∷ [])) x q) c.args.nodes.now c.nodes.at-index c.args.found.now.entries c.nodes.found.entries c.gather.new.found.entries (omega arith) c.nodes.invariant
    (subst (λ a. Gathers (IsAt (tree trie) a) c.nodes.found.entries c.gather.new.found.entries) c.child.ensures c.in_ok-gather.ensures)

pub returns : goal.returns
returns c =
    let trie = c.args.trie.now in
    gather_done (λ at x q. IsAt (tree trie) (child_of trie at (35 ∷ [])) x q) c.args.nodes.now c.nodes.at-index c.args.found.now.entries c.nodes.found.entries (omega arith) c.nodes.invariant
