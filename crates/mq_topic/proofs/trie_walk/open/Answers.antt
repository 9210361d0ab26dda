use Rattle.std.proofs.Common.{◌≡◌, ◌∷◌, [], ◌++◌, Some, None, refl, sym, ap, subst, ◌∙◌, append_assoc}
use Rattle.mq_topic.specs.Inside.Matching.{levels_left}
use Rattle.mq_topic.specs.Topic.{levels}
use Rattle.mq_topic.specs.Tree.{Leads}
use Rattle.mq_topic.specs.TrieView.{tree}
use Rattle.mq_topic.proofs.Changes.{up_to_same}
use Rattle.mq_topic.proofs.Paths.{join, rest}
use Rattle.mq_topic.proofs.trie_walk.open.Goals as goal

pub returns-in-Err-clause-unchanged : goal.returns-in-Err-clause-unchanged
returns-in-Err-clause-unchanged c = λ row h.
    c.prune.ensures row (up_to_same c.levels.at row (tree c.levels.trie) (tree c.enter.new.trie) c.in-Err.ensures.unchanged (c.levels.invariant.opened row h))

pub returns-in-Err-clause-refused : goal.returns-in-Err-clause-refused
returns-in-Err-clause-refused c = λ to h.
    let t = tree c.levels.trie in
    let done = c.levels.invariant.done in
    let first = c.first_level.result in
    let left : levels_left c.levels.left ≡ first.0.now ∷ levels_left first.1 = ap levels_left c.in-Some.is ∙ c.first_level.ensures.levels in
    let whole : Leads t None (done.0 ++ levels_left c.levels.left) to = subst (λ p. Leads t None p to) done.1 (c.levels.invariant.leads None to (levels c.args.filter.now) h) in
    let on : Leads t c.levels.at (first.0.now ∷ levels_left first.1) to = subst (λ p. Leads t c.levels.at p to) left (rest t None c.levels.at to done.0 (levels_left c.levels.left) whole done.2) in
    let clash : None ≡ Some on.0 = sym c.in-Err.ensures.refused ∙ on.1 in
    cc

pub levels-preserved : goal.levels-preserved
levels-preserved c =
    let new = tree c.enter.new.trie in
    let at = c.levels.at in
    let id = c.in-Ok.id in
    let invariant = c.levels.invariant in
    let done = invariant.done in
    let first = c.first_level.result in
    let level = first.0.now in
    let left : levels_left c.levels.left ≡ level ∷ levels_left first.1 = ap levels_left c.in-Some.is ∙ c.first_level.ensures.levels in
    record {
      linked = c.in-Ok.ensures.linked.0;
      place = c.in-Ok.ensures.linked.1;
      opened = λ row h. c.in-Ok.ensures.entered row (invariant.opened row h);
      leads = λ from to path h. c.in-Ok.ensures.leads path from to (invariant.leads from to path h);
      done = (
        done.0 ++ level ∷ [],
        done.1 ∙ ap (λ p. done.0 ++ p) left ∙ sym (append_assoc done.0 (level ∷ []) (levels_left first.1)),
        join new None at (Some id) done.0 (level ∷ []) (c.in-Ok.ensures.leads done.0 None at done.2) (id, c.in-Ok.ensures.child, refl),
      );
    }
