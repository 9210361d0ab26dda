use Rattle.std.proofs.Common.{is_some, sym, ap, ◌∙◌}
use Rattle.mq_topic.specs.Rows.{Key, row_qos, without_row}
use Rattle.mq_topic.specs.Tree.{without}
use Rattle.mq_topic.specs.TrieView.{tree}
use Rattle.mq_topic.proofs.Changes.{trie_rows}
use Rattle.mq_topic.proofs.StoreFacts.{store_facts}
use Rattle.mq_topic.proofs.Storing.{ascending-without_row, without_absent}
use Rattle.mq_topic.proofs.trie_store.TrieStoreFilterStore.remove.Goals as goal

pub invariant_of-self : goal.invariant_of-self
invariant_of-self c =
    let client = c.args.client in
    let f = c.args.filter.now in
    let rows = c.self.inside.rows in
    let t = tree c.unlink.new.trie in
    let gone = trie_rows (without client f (λ d g. row_qos d g rows)) (λ d g. row_qos d g (without_row client f rows)) t (λ d g. sym (store_facts.removed client f rows d g)) (c.unlink.ensures (λ d g. row_qos d g rows) c.self.invariant.1) in
    rw c.remove.ensures (ascending-without_row client f rows c.self.invariant.0, gone)

pub returns-else-found-clause-value : goal.returns-else-found-clause-value
returns-else-found-clause-value c =
    let key : Key = (c.args.client, c.args.filter.now) in
    let none = sym (c.is_some-found.ensures ∙ ap is_some c.get.ensures.value) ∙ c.if-found.false in
    sym (rw c.self.view_is at (without_absent key c.self.inside.rows none))
