use Rattle.std.proofs.Common.{◌∷◌, [], ap, subst, ◌∙◌}
use Rattle.mq_topic.specs.Inside.Found.{Finds}
use Rattle.mq_topic.specs.Inside.Matching.{levels_left}
use Rattle.mq_topic.specs.TrieView.{tree}
use Rattle.mq_topic.proofs.Outcomes.{when_ok}
use Rattle.mq_topic.proofs.Walking.{IsWalked, walk_begins, walk_ends, walk_level, walk_rest}
use Rattle.mq_topic.proofs.trie_walk.walk.Goals as goal

pub returns : goal.returns
returns c =
    let trie = c.args.trie.now in
    let t = tree trie in
    let from = c.args.from ∷ [] in
    let All = Finds t c.args.from (levels_left c.args.name) in
    let begun = c.args.found.now.entries in
    let later = c.gather_rests.new.found.entries in
    let last = c.walk_on.new.found.entries in
    let first = c.first_level.result in
    let next = c.in_ok-next.next.items in
    let left = ap levels_left c.in-Some.is ∙ c.first_level.ensures.levels in
    let walked = subst (λ ns. IsWalked t All begun begun from ns) left (walk_begins t All begun begun begun [] c.args.from (levels_left c.args.name)) in
    let stepped = walk_level t All begun begun later from next first.0.now (levels_left first.1) walked c.in_ok-gather_rests.ensures c.in_ok-next.ensures in
    when_ok c.walk_on.result _ _ (λ g. walk_rest t All begun later later next (levels_left first.1) last stepped g) c.walk_on.ensures

pub returns-in_default : goal.returns-in_default
returns-in_default c =
    let trie = c.args.trie.now in
    let t = tree trie in
    let from = c.args.from ∷ [] in
    let All = Finds t c.args.from (levels_left c.args.name) in
    let begun = c.args.found.now.entries in
    let later = c.gather_rests.new.found.entries in
    let last = c.gather_ends.new.found.entries in
    let walked = subst (λ ns. IsWalked t All begun begun from ns) (ap levels_left c.in_default.is) (walk_begins t All begun begun begun [] c.args.from (levels_left c.args.name)) in
    when_ok c.gather_ends.result _ _ (λ g. walk_ends t All begun begun later from last walked c.in_ok-gather_rests.ensures g) c.gather_ends.ensures
