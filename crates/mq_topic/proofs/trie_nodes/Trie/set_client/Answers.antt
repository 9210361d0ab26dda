use Rattle.std.proofs.Common.{sym, refl}
use Rattle.mq_topic.proofs.Nodes.{client_is, put_node, same_is, written}
use Rattle.mq_topic.proofs.Placing.{on_err}
use Rattle.mq_topic.proofs.trie_nodes.Trie.set_client.Goals as goal

pub returns-in_err-set-clause-unchanged : goal.returns-in_err-set-clause-unchanged
returns-in_err-set-clause-unchanged c =
    let was = c.in-Some.ensures.value in
    let trie = c.args.self.now in
    let id = c.args.id in
    let node = c.in-Some.node.now in
    let new = record node { clients = c.set.new.self } in
    on_err _ c.from_residual.result
    (same_is trie (put_node trie id new) id node new (sym was) (written trie id node new was) refl refl (λ l. refl) c.in_err-set.ensures.unchanged)

pub returns-in_ok-set-clause-set : goal.returns-in_ok-set-clause-set
returns-in_ok-set-clause-set c =
    let h = c.in_ok-set.ensures.set in
    let was = c.in-Some.ensures.value in
    let trie = c.args.self.now in
    let id = c.args.id in
    let node = c.in-Some.node.now in
    let new = record node { clients = c.set.new.self } in
    client_is trie (put_node trie id new) id node new (sym was) (written trie id node new was) refl refl refl c.args.client _ h.same h.others
