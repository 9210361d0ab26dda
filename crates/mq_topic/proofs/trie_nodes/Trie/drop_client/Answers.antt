use Rattle.std.proofs.Common.{sym, refl}
use Rattle.mq_topic.proofs.Nodes.{client_is, put_node, written}
use Rattle.mq_topic.proofs.trie_nodes.Trie.drop_client.Goals as goal

pub returns-in-Some : goal.returns-in-Some
returns-in-Some c =
    let h = c.take.ensures in
    let was = c.in-Some.ensures.value in
    let trie = c.args.self.now in
    let id = c.args.id in
    let node = c.in-Some.node.now in
    let new = record node { clients = c.take.new.self } in
    client_is trie (put_node trie id new) id node new (sym was) (written trie id node new was) refl refl refl c.args.client _ h.same h.others
