use Rattle.std.proofs.Common.{◌≡◌, ◌∷◌, [], ℕ, List, Option, sym, ap, subst, ◌∙◌, ◌↔◌, arith, eqb-true}
use Rattle.std.specs.Vec.{vec_len}
use Rattle.std.proofs.lemmas.List.{nil_from_length}
use Rattle.mq_topic.specs.Inside.Found.{Among, Finds, Gathers, IsAt, Steps}
use Rattle.mq_topic.specs.Inside.Matching.{levels_left}
use Rattle.mq_topic.specs.Tree.{Tree}
use Rattle.mq_topic.specs.TrieView.{child_of, tree}
use Rattle.mq_topic.specs.declared.qos.Qos.{Qos}
use Rattle.mq_topic.specs.declared.trie_nodes.NodeId.{NodeId}
use Rattle.mq_topic.proofs.Gathering.{Holds}
use Rattle.mq_topic.proofs.Outcomes.{when_ok}
use Rattle.mq_topic.proofs.Walking.{IsWalked, walk_ends, walk_level, walk_starts, walk_stops}
use Rattle.mq_topic.proofs.trie_walk.walk_on.Goals as goal

-- The clients that the levels of a name find below one of the places.
abbrev pub below : Tree → List (Option NodeId) → List (List ℕ) → ℕ → Qos → Type 0
below t from name c q = Among (λ at. Finds t at name c q) from

pub levels-init : goal.levels-init
levels-init c = walk_starts (tree c.args.trie.now) c.args.found.now.entries c.args.from.items (levels_left c.args.name)

pub levels-preserved : goal.levels-preserved
levels-preserved c =
    let trie = c.args.trie.now in
    let t = tree trie in
    let All = below t c.args.from.items (levels_left c.args.name) in
    let begun = c.args.found.now.entries in
    let found = c.levels.found.entries in
    let later = c.gather_rests.new.found.entries in
    let nodes = c.levels.nodes.items in
    let next = c.in_ok-nodes.nodes.items in
    let first = c.first_level.result in
    let left = ap levels_left c.in-Some.is ∙ c.first_level.ensures.levels in
    let walked = subst (λ ns. IsWalked t All begun found nodes ns) left c.levels.invariant in
    let gathered = subst (λ ns. Gathers (λ d q. Among (λ at. IsAt t (child_of trie at (35 ∷ [])) d q) ns) found later) c.deref.ensures.value c.in_ok-gather_rests.ensures in
    let stepped = λ (to : Option NodeId). subst (λ ns. Holds next to ↔ Among (Steps t first.0.now to) ns) c.deref-in-Some.ensures.value (c.in_ok-nodes.ensures to) in
    walk_level t All begun found later nodes next first.0.now (levels_left first.1) walked gathered stepped

pub returns : goal.returns
returns c =
    let trie = c.args.trie.now in
    let t = tree trie in
    let All = below t c.args.from.items (levels_left c.args.name) in
    let begun = c.args.found.now.entries in
    let found = c.levels.found.entries in
    let later = c.gather_rests-2.new.found.entries in
    let last = c.gather_ends.new.found.entries in
    let nodes = c.levels.nodes.items in
    let walked = subst (λ ns. IsWalked t All begun found nodes ns) (ap levels_left c.in_default.is) c.levels.invariant in
    let gathered = subst (λ ns. Gathers (λ d q. Among (λ at. IsAt t (child_of trie at (35 ∷ [])) d q) ns) found later) c.deref-2.ensures.value c.in_ok-gather_rests-2.ensures in
    when_ok c.gather_ends.result _ _
    (λ g. walk_ends t All begun found later nodes last walked gathered (subst (λ ns. Gathers (λ d q. Among (λ at. IsAt t at d q) ns) later last) c.deref-3.ensures.value g))
    c.gather_ends.ensures

pub returns-then-is_empty : goal.returns-then-is_empty
returns-then-is_empty c =
    let t = tree c.args.trie.now in
    let name = levels_left c.args.name in
    let nodes = c.levels.nodes in
    let size = eqb-true (vec_len nodes) 0 (sym c.is_empty.ensures ∙ c.if-is_empty.true) in
    let none : nodes.items ≡ [] = nil_from_length nodes.items (omega (arith, size, nodes.ok)) in
    walk_stops t (below t c.args.from.items name) c.args.found.now.entries c.levels.found.entries c.levels.found.entries nodes.items (levels_left c.levels.left) none c.levels.invariant
