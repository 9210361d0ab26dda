use Rattle.std.proofs.Common.{None, subst}
use Rattle.mq_topic.specs.Topic.{levels}
use Rattle.mq_topic.specs.Tree.{Leads, without}
use Rattle.mq_topic.specs.TrieView.{tree}
use Rattle.mq_topic.proofs.Changes.{drop_up_to, off_root}
use Rattle.mq_topic.proofs.trie_store.leave.Goals as goal

pub returns-in-Some : goal.returns-in-Some
returns-in-Some c = λ row f h leads.
    let client = c.args.client in
    let old = tree c.args.trie.now in
    let mid = tree c.drop_client.new.self in
    let here = subst (λ a. Leads old None (levels f) a) c.in-Some.is leads in
    c.prune.ensures (without client f row) (drop_up_to c.in-Some.id client f row old mid h here c.drop_client.ensures)

pub returns-in_default : goal.returns-in_default
returns-in_default c = λ row f h leads.
    let old = tree c.args.trie.now in
    absurd (off_root old f (subst (λ a. Leads old None (levels f) a) c.in_default.is leads))
