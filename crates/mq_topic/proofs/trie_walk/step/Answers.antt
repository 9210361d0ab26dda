use Rattle.std.proofs.Common.{◌⊎◌, sym, arith, subst, ◌↔◌}
use Rattle.mq_topic.specs.Inside.Found.{Among, IsThere, Steps}
use Rattle.mq_topic.specs.TrieView.{tree}
use Rattle.mq_topic.proofs.Gathering.{Holds, all_taken, step_more}
use Rattle.mq_topic.proofs.trie_walk.step.Goals as goal

pub nodes-preserved : goal.nodes-preserved
nodes-preserved c =
    let t = tree c.args.trie.now in
    let level = c.args.level.now in
    step_more (Steps t level) c.args.nodes.now c.nodes.at-index c.nodes.next.items c.push_some.new.places.items c.push_some-in-nodes.new.places.items c.child.result c.child-in-nodes.result (omega arith)
    (λ to i. IsThere (sym c.child.ensures i) to ⊎ IsThere (sym c.child-in-nodes.ensures i) to)
    c.nodes.invariant c.in_ok-push_some.ensures c.in_ok-push_some-2.ensures

pub returns : goal.returns
returns c =
    let t = tree c.args.trie.now in
    let level = c.args.level.now in
    λ to. subst (λ ys. Holds c.nodes.next.items to ↔ Among (Steps t level to) ys) (all_taken c.args.nodes.now c.nodes.at-index (omega arith)) (c.nodes.invariant to)
