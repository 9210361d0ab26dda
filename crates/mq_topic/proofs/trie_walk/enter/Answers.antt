use Rattle.std.proofs.Common.{sym, ◌∙◌}
use Rattle.mq_topic.specs.TrieView.{tree}
use Rattle.mq_topic.proofs.Changes.{grown_places, grown_up_to, leads_up, up_to_child}
use Rattle.mq_topic.proofs.Outcomes.{if_ok, on_ok}
use Rattle.mq_topic.proofs.trie_walk.enter.Goals as goal

pub returns-in-Some-clause-entered : goal.returns-in-Some-clause-entered
returns-in-Some-clause-entered c = λ row h. up_to_child c.args.at c.args.level.now c.in-Some.id row (tree c.args.trie.now) (sym c.child.ensures ∙ c.in-Some.is) h

pub returns-in-None-clause-entered : goal.returns-in-None-clause-entered
returns-in-None-clause-entered c =
    let old = tree c.args.trie.now in
    let new = tree c.grow.new.self in
    let none = sym c.child.ensures ∙ c.in-None.is in
    if_ok c.grow.result _ _ (λ k g row h. grown_up_to c.args.at c.args.level.now k old new c.requires.linked c.requires.place none g row h) c.grow.ensures.grown

pub returns-in-None-clause-linked : goal.returns-in-None-clause-linked
returns-in-None-clause-linked c =
    let old = tree c.args.trie.now in
    let new = tree c.grow.new.self in
    let none = sym c.child.ensures ∙ c.in-None.is in
    if_ok c.grow.result _ _ (λ k g. grown_places c.args.at c.args.level.now k old new c.requires.linked c.requires.place none g) c.grow.ensures.grown

pub returns-in-None-clause-leads : goal.returns-in-None-clause-leads
returns-in-None-clause-leads c =
    let old = tree c.args.trie.now in
    let new = tree c.grow.new.self in
    let none = sym c.child.ensures ∙ c.in-None.is in
    on_ok c.grow.result _ _ (λ k g path from to h. leads_up c.args.at c.args.level.now k old new c.requires.linked c.requires.place none g from to path h) c.grow.ensures.grown
