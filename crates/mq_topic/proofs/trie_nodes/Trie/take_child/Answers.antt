use Rattle.std.proofs.Common.{sym, refl}
use Rattle.mq_topic.proofs.Nodes.{child_is, put_node, top_is, written}
use Rattle.mq_topic.proofs.trie_nodes.Trie.take_child.Goals as goal

pub returns-in-None-clause-taken : goal.returns-in-None-clause-taken
returns-in-None-clause-taken c =
    let h = c.take.ensures in
    let trie = c.args.self.now in
    rw c.in-None.is
    (top_is trie (record trie { top = c.take.new.self }) refl c.args.level.now _ h.same h.others)

pub returns-in-Some-get_mut-clause-taken : goal.returns-in-Some-get_mut-clause-taken
returns-in-Some-get_mut-clause-taken c =
    let h = c.take-in-Some-get_mut.ensures in
    let was = c.in-Some-get_mut.ensures.value in
    let trie = c.args.self.now in
    let id = c.in-Some.id in
    let node = c.in-Some-get_mut.node.now in
    let new = record node { children = c.take-in-Some-get_mut.new.self } in
    rw c.in-Some.is
    (child_is trie (put_node trie id new) id node new (sym was) (written trie id node new was) refl refl refl c.args.level.now _ h.same h.others)
