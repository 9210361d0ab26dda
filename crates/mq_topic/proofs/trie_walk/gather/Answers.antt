use Rattle.std.proofs.Common.{◌≡◌, Some, None, sym, ◌∙◌}
use Rattle.mq_topic.specs.Inside.Found.{IsAt}
use Rattle.mq_topic.specs.NodeView.{client_in}
use Rattle.mq_topic.specs.TrieView.{tree}
use Rattle.mq_topic.proofs.Gathering.{gathers_nothing, gathers_same}
use Rattle.mq_topic.proofs.Outcomes.{when_ok}
use Rattle.mq_topic.proofs.trie_walk.gather.Goals as goal

pub returns-in-None : goal.returns-in-None
returns-in-None c =
    gathers_nothing (IsAt (tree c.args.trie.now) c.args.at) c.args.found.now.entries
    (λ d q e. let clash : None ≡ Some q = sym (c.in-None.ensures d) ∙ e in cc)

pub returns-in-Some : goal.returns-in-Some
returns-in-Some c =
    let clients = c.in-Some.clients.now in
    when_ok c.gather_clients.result _ _
    (λ g. gathers_same (λ d q. client_in d clients ≡ Some q) (IsAt (tree c.args.trie.now) c.args.at) c.args.found.now.entries c.gather_clients.new.found.entries
    (λ d q e. sym (c.in-Some.ensures d) ∙ e) (λ d q e. c.in-Some.ensures d ∙ e) g)
    c.gather_clients.ensures
