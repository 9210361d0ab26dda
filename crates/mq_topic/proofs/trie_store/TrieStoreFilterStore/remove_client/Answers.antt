use Rattle.std.proofs.Common.{sym, ◌∙◌}
use Rattle.mq_topic.specs.Rows.{row_qos, without_client}
use Rattle.mq_topic.specs.Tree.{RowMap}
use Rattle.mq_topic.specs.Inside.Tree.{without_all}
use Rattle.mq_topic.specs.TrieView.{tree}
use Rattle.mq_topic.proofs.Changes.{trie_rows}
use Rattle.mq_topic.proofs.Leaving.{no_rows}
use Rattle.mq_topic.proofs.StoreFacts.{store_facts}
use Rattle.mq_topic.proofs.Storing.{ascending-without_client}
use Rattle.mq_topic.proofs.trie_store.TrieStoreFilterStore.remove_client.Goals as goal

pub invariant_of-self : goal.invariant_of-self
invariant_of-self c =
    let client = c.args.client in
    let rows = c.self.inside.rows in
    let row : RowMap = λ d g. row_qos d g rows in
    let t = tree c.unlink_all.new.trie in
    let gone = trie_rows (without_all client row) (λ d g. row_qos d g (without_client client rows)) t (λ d g. sym (store_facts.removed_client client rows d g)) (c.unlink_all.ensures row c.in-Some.ensures.own c.self.invariant.1) in
    rw c.in-Some.ensures.rest (ascending-without_client client rows c.self.invariant.0, gone)

pub invariant_of-self-in_default : goal.invariant_of-self-in_default
invariant_of-self-in_default c =
    let client = c.args.client in
    let rows = c.self.inside.rows in
    let row : RowMap = λ d g. row_qos d g rows in
    let t = tree c.self.inside.trie in
    let kept = trie_rows row (λ d g. row_qos d g (without_client client rows)) t (λ d g. no_rows row client c.in_default.ensures.own d g ∙ sym (store_facts.removed_client client rows d g)) c.self.invariant.1 in
    rw c.in_default.ensures.rest (ascending-without_client client rows c.self.invariant.0, kept)
