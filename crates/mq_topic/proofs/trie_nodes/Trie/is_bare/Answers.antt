use Rattle.mq_topic.proofs.Nodes.{bare-by, used-by}
use Rattle.mq_topic.proofs.Outcomes.{when_true}
use Rattle.mq_topic.proofs.trie_nodes.Trie.is_bare.Goals as goal

pub returns-then-is_empty : goal.returns-then-is_empty
returns-then-is_empty c =
    bare-by c.args.self.now c.args.id c.in-Some.node.now c.is_empty-then-is_empty.result c.in-Some.ensures
    (when_true c.is_empty.result _ _ c.if-is_empty.true c.is_empty.ensures) c.is_empty-then-is_empty.ensures

pub returns-else-is_empty : goal.returns-else-is_empty
returns-else-is_empty c =
    used-by c.args.self.now c.args.id c.in-Some.node.now c.is_empty.result c.in-Some.ensures c.if-is_empty.false c.is_empty.ensures
