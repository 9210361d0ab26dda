use Rattle.std.proofs.Common.{refl, subst, ◌∙◌}
use Rattle.mq_topic.specs.Inside.Tree.{ChildIs}
use Rattle.mq_topic.specs.TrieView.{tree}
use Rattle.mq_topic.specs.declared.clients.Clients.TheVariants.{Nobody}
use Rattle.mq_topic.specs.declared.trie_nodes.Node.{Node}
use Rattle.mq_topic.specs.declared.trie_nodes.NodeId.{NodeId}
use Rattle.mq_topic.specs.declared.trie_nodes.Trie.{Trie}
use Rattle.std.proofs.Common.{Some}
use Rattle.mq_topic.proofs.Nodes.{grown_is, undone_is}
use Rattle.mq_topic.proofs.trie_nodes.Trie.grow.Goals as goal

pub returns-in-Ok-clause-grown : goal.returns-in-Ok-clause-grown
returns-in-Ok-clause-grown c =
    let h = c.in_ok-number.ensures in
    let old = c.args.self.now in
    let mid : Trie = record old { nodes = c.insert.new.self; texts = c.share.new.self } in
    let k : NodeId = record { 0 = c.in_ok-number.number } in
    let node : Node = record { children = c.new.result; clients = Nobody; parent = c.args.at; level = c.in_ok-level.level } in
    let level = c.in_ok-level.ensures in
    let put = subst (λ l. ChildIs c.args.at l (Some k) (tree mid) (tree c.put_child.new.self)) (c.in_ok-key.ensures.cases ∙ level) c.in-Ok.ensures.put in
    grown_is old mid k node refl h.was_vacant h.updates c.new.ensures (λ d. refl) c.put_child.new.self c.args.at c.args.level.now (λ i. (c.args.at, level i)) put

pub returns-in-Err-clause-unchanged : goal.returns-in-Err-clause-unchanged
returns-in-Err-clause-unchanged c =
    let h = c.in_ok-number.ensures in
    let old = c.args.self.now in
    let mid : Trie = record old { nodes = c.insert.new.self; texts = c.share.new.self } in
    let k : NodeId = record { 0 = c.in_ok-number.number } in
    let node : Node = record { children = c.new.result; clients = Nobody; parent = c.args.at; level = c.in_ok-level.level } in
    let post = c.put_child.new.self in
    undone_is old mid k node refl h.was_vacant h.updates c.new.ensures (λ d. refl) post (record post { nodes = c.try_remove.new.self }) c.in-Err.ensures.unchanged refl c.try_remove.ensures.updates
