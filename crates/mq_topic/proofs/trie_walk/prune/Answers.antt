use Rattle.std.proofs.Common.{Some, None, subst}
use Rattle.mq_topic.specs.Tree.{IsPlace}
use Rattle.mq_topic.specs.Inside.Tree.{IsTrieUpTo}
use Rattle.mq_topic.specs.TrieView.{tree}
use Rattle.mq_topic.proofs.Changes.{cut_up_to, trie_at_root, trie_at_used}
use Rattle.mq_topic.proofs.Outcomes.{when_false, when_true}
use Rattle.mq_topic.proofs.Paths.{place_of}
use Rattle.mq_topic.proofs.trie_walk.prune.Goals as goal

pub returns-then-not-is_bare : goal.returns-then-not-is_bare
returns-then-not-is_bare c = λ row h.
    let t = tree c.nodes.trie in
    let id = c.in-Some.id in
    let up : IsTrieUpTo (Some id) row t = subst (λ a. IsTrieUpTo a row t) c.in-Some.is (c.nodes.invariant row h) in
    let place : IsPlace t (Some id) = place_of t up.linked None (Some id) up.leads.0 tt up.leads.1 in
    trie_at_used id row t up (when_false c.is_bare.result _ _ c.if-not-is_bare.true c.is_bare.ensures place)

pub nodes-preserved : goal.nodes-preserved
nodes-preserved c = λ row h.
    let old = tree c.nodes.trie in
    let new = tree c.cut-at.new.self in
    let id = c.in-Some.id in
    let up : IsTrieUpTo (Some id) row old = subst (λ a. IsTrieUpTo a row old) c.in-Some.is (c.nodes.invariant row h) in
    let bare = when_true c.is_bare.result _ _ c.if-not-is_bare.false c.is_bare.ensures in
    let cut = c.cut-at.ensures.cut in
    cut_up_to c.cut-at.result cut.0 id old new up.linked bare.0 cut.1.0 cut.1.1 row up

pub returns : goal.returns
returns c = λ row h.
    let t = tree c.nodes.trie in
    trie_at_root row t (subst (λ a. IsTrieUpTo a row t) c.in_default.is (c.nodes.invariant row h))
