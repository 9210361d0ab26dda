use Rattle.std.proofs.Common.{◌≡◌, None, sym, subst}
use Rattle.mq_topic.specs.Rows.{row_qos, with_row}
use Rattle.mq_topic.specs.Tree.{RowMap, without}
use Rattle.mq_topic.specs.Inside.Tree.{row_with}
use Rattle.mq_topic.specs.TrieView.{tree}
use Rattle.mq_topic.proofs.Changes.{set_undone, trie_rows}
use Rattle.mq_topic.proofs.Placing.{on_err}
use Rattle.mq_topic.proofs.StoreFacts.{store_facts}
use Rattle.mq_topic.proofs.Storing.{ascending-with_row}
use Rattle.mq_topic.proofs.trie_store.TrieStoreFilterStore.set.Goals as goal

pub invariant_of-self : goal.invariant_of-self
invariant_of-self c = (c.self.invariant.0, c.in_err-at.ensures.unchanged (λ d g. row_qos d g c.self.inside.rows) c.self.invariant.1)

pub returns-in_err-at-clause-refused : goal.returns-in_err-at-clause-refused
returns-in_err-at-clause-refused c =
    on_err _ c.from_residual.result
    (subst (λ rows. row_qos c.args.client c.args.filter rows ≡ None) c.self.view_is (c.in_err-at.ensures.refused (λ d g. row_qos d g c.self.inside.rows) c.self.invariant.1))

pub invariant_of-self-in-Ok : goal.invariant_of-self-in-Ok
invariant_of-self-in-Ok c =
    let client = c.args.client in
    let f = c.args.filter in
    let q = c.args.qos in
    let rows = c.self.inside.rows in
    let row : RowMap = λ d g. row_qos d g rows in
    let t = tree c.link.new.trie in
    let linked = trie_rows (row_with client f q row) (λ d g. row_qos d g (with_row client f q rows)) t (λ d g. sym (store_facts.set client f q rows d g)) (c.in_ok-at.ensures.linked row c.self.invariant.1) in
    rw c.in-Ok.ensures.value (ascending-with_row client f q rows c.self.invariant.0, linked)

pub invariant_of-self-in-Err : goal.invariant_of-self-in-Err
invariant_of-self-in-Err c =
    let client = c.args.client in
    let f = c.args.filter in
    let q = c.args.qos in
    let rows = c.self.inside.rows in
    let row : RowMap = λ d g. row_qos d g rows in
    let t = tree c.leave.new.trie in
    let linked = c.in_ok-at.ensures.linked row c.self.invariant.1 in
    let left = c.leave.ensures (row_with client f q row) f linked c.in_ok-at.ensures.leads in
    let undone = trie_rows (without client f (row_with client f q row)) row t (set_undone client f q row c.in-Err.ensures.refused) left in
    rw c.in-Err.ensures.unchanged (c.self.invariant.0, undone)
