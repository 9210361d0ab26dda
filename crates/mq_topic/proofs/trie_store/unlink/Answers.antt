use Rattle.std.proofs.Common.{Some, None, sym, subst}
use Rattle.mq_topic.specs.Topic.{levels}
use Rattle.mq_topic.specs.Tree.{Leads, without}
use Rattle.mq_topic.specs.TrieView.{tree}
use Rattle.mq_topic.proofs.Changes.{no_row, trie_rows, without_none}
use Rattle.mq_topic.proofs.trie_store.unlink.Goals as goal

pub returns-in-Some : goal.returns-in-Some
returns-in-Some c = λ row h.
    let old = tree c.args.trie.now in
    c.leave.ensures row c.args.filter.now h (subst (λ f. Leads old None (levels f) (Some c.in-Some.id)) c.as_str.ensures.value c.in-Some.ensures)

pub returns-in_default : goal.returns-in_default
returns-in_default c = λ row h.
    let client = c.args.client in
    let filter = c.args.filter.now in
    let old = tree c.args.trie.now in
    let none = no_row old row h client filter (λ k g. c.in_default.ensures k (subst (λ f. Leads old None (levels f) (Some k)) (sym c.as_str.ensures.value) g)) in
    trie_rows row (without client filter row) old (without_none client filter row none) h
