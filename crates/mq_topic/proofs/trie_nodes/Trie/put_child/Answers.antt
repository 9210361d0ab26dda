use Rattle.std.proofs.Common.{sym, refl}
use Rattle.std.specs.Arc.{arc_str_bytes}
use Rattle.mq_topic.proofs.Nodes.{child_is, put_node, same_is, top_is, top_same, written}
use Rattle.mq_topic.proofs.Placing.{on_err}
use Rattle.mq_topic.proofs.trie_nodes.Trie.put_child.Goals as goal

pub returns-in_err-put-in-None-clause-unchanged : goal.returns-in_err-put-in-None-clause-unchanged
returns-in_err-put-in-None-clause-unchanged c =
    let trie = c.args.self.now in
    on_err _ c.from_residual.result (top_same trie (record trie { top = c.put.new.self }) refl c.in_err-put-in-None.ensures.unchanged)

pub returns-in_err-put-in-Some-clause-unchanged : goal.returns-in_err-put-in-Some-clause-unchanged
returns-in_err-put-in-Some-clause-unchanged c =
    let was = c.in-Some-get_mut.ensures.value in
    let trie = c.args.self.now in
    let id = c.in-Some.id in
    let node = c.in-Some-get_mut.node.now in
    let new = record node { children = c.put-in-Some-get_mut.new.self } in
    on_err _ c.from_residual-in_err-put-in-Some.result
    (same_is trie (put_node trie id new) id node new (sym was) (written trie id node new was) refl refl c.in_err-put-in-Some.ensures.unchanged (λ d. refl))

pub returns-in_ok-put-in-None-clause-put : goal.returns-in_ok-put-in-None-clause-put
returns-in_ok-put-in-None-clause-put c =
    let h = c.in_ok-put-in-None.ensures.put in
    let trie = c.args.self.now in
    rw c.in-None.is
    (top_is trie (record trie { top = c.put.new.self }) refl (arc_str_bytes c.args.level) _ h.same h.others)

pub returns-in_ok-put-in-Some-clause-put : goal.returns-in_ok-put-in-Some-clause-put
returns-in_ok-put-in-Some-clause-put c =
    let h = c.in_ok-put-in-Some.ensures.put in
    let was = c.in-Some-get_mut.ensures.value in
    let trie = c.args.self.now in
    let id = c.in-Some.id in
    let node = c.in-Some-get_mut.node.now in
    let new = record node { children = c.put-in-Some-get_mut.new.self } in
    rw c.in-Some.is
    (child_is trie (put_node trie id new) id node new (sym was) (written trie id node new was) refl refl refl (arc_str_bytes c.args.level) _ h.same h.others)
