use Rattle.std.proofs.Common.{arith}
use Rattle.mq_topic.specs.Inside.Found.{IsAt}
use Rattle.mq_topic.specs.TrieView.{tree}
use Rattle.mq_topic.proofs.Gathering.{gather_done, gather_more}
use Rattle.mq_topic.proofs.trie_walk.gather_ends.Goals as goal

pub nodes-preserved : goal.nodes-preserved
nodes-preserved c =
    gather_more (λ at x q. IsAt (tree c.args.trie.now) at x q) c.args.nodes.now c.nodes.at-index c.args.found.now.entries c.nodes.found.entries c.gather.new.found.entries (omega arith) c.nodes.invariant c.in_ok-gather.ensures

pub returns : goal.returns
returns c = gather_done (λ at x q. IsAt (tree c.args.trie.now) at x q) c.args.nodes.now c.nodes.at-index c.args.found.now.entries c.nodes.found.entries (omega arith) c.nodes.invariant
