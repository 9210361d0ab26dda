use Rattle.std.proofs.Common.{◌≡◌, ◌∷◌, Some, None, sym, ap, subst, ◌∙◌}
use Rattle.mq_topic.specs.Inside.Matching.{levels_left}
use Rattle.mq_topic.specs.Topic.{levels}
use Rattle.mq_topic.specs.Tree.{Leads}
use Rattle.mq_topic.specs.TrieView.{tree}
use Rattle.mq_topic.proofs.Paths.{reach_end}
use Rattle.mq_topic.proofs.trie_walk.reach.Goals as goal

pub returns-in_err-child : goal.returns-in_err-child
returns-in_err-child c =
    let t = tree c.args.trie.now in
    let first = c.first_level.result in
    let left : levels_left c.levels.left ≡ first.0.now ∷ levels_left first.1 = ap levels_left c.in-Some.is ∙ c.first_level.ensures.levels in
    rw c.from_residual.ensures (λ k h.
    let on : Leads t c.levels.at (first.0.now ∷ levels_left first.1) (Some k) = subst (λ p. Leads t c.levels.at p (Some k)) left ((c.levels.invariant (Some k)).0 h) in
    let clash : None ≡ Some on.0 = c.in_err-child.ensures ∙ on.1 in
    let no : ⊥ = cc in
    no)

pub levels-preserved : goal.levels-preserved
levels-preserved c = λ to.
    let t = tree c.args.trie.now in
    let first = c.first_level.result in
    let left : levels_left c.levels.left ≡ first.0.now ∷ levels_left first.1 = ap levels_left c.in-Some.is ∙ c.first_level.ensures.levels in
    let here = sym c.in_ok-child.ensures in (
      λ h.
          let on : Leads t c.levels.at (first.0.now ∷ levels_left first.1) to = subst (λ p. Leads t c.levels.at p to) left ((c.levels.invariant to).0 h) in
          let same : Some on.0 ≡ Some c.in_ok-child.field-0 = sym on.1 ∙ here in
          subst (λ a. Leads t a (levels_left first.1) to) same on.2,
      λ g. (c.levels.invariant to).1 (subst (λ p. Leads t c.levels.at p to) (sym left) (c.in_ok-child.field-0, here, g)),
    )

pub returns : goal.returns
returns c =
    let t = tree c.args.trie.now in
    let end = ap levels_left c.in_default.is in
    reach_end t c.levels.at (levels c.args.filter.now) (λ to. (
      λ h. subst (λ p. Leads t c.levels.at p to) end ((c.levels.invariant to).0 h),
      λ g. (c.levels.invariant to).1 (subst (λ p. Leads t c.levels.at p to) (sym end) g),
    ))
