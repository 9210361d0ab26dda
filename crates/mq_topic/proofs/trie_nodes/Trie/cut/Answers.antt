use Rattle.std.proofs.Common.{None, sym, refl, ap, subst}
use Rattle.std.specs.Option.{option_map}
use Rattle.std.specs.Arc.{arc_str_bytes}
use Rattle.mq_topic.specs.Inside.Tree.{ChildIs}
use Rattle.mq_topic.specs.TrieView.{link_in, tree}
use Rattle.mq_topic.specs.declared.trie_nodes.Trie.{Trie}
use Rattle.mq_topic.proofs.Nodes.{cut_is}
use Rattle.mq_topic.proofs.trie_nodes.Trie.cut.Goals as goal

pub returns-in-Some-clause-cut : goal.returns-in-Some-clause-cut
returns-in-Some-clause-cut c =
    let old = c.args.self.now in
    let mid : Trie = record old { nodes = c.try_remove.new.self } in
    let node = c.in-Some.node in
    let new = c.take_child.new.self in
    let taken = subst (λ l. ChildIs node.parent l None (tree mid) (tree new)) c.as_str.ensures.value c.take_child.ensures.taken in
    let was = c.in-Some.ensures.value in
    (arc_str_bytes node.level, (sym (ap (option_map link_in) was), cut_is old mid new c.args.id node was refl c.try_remove.ensures.updates c.requires.bare taken))
