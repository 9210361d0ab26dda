use Rattle.std.proofs.Common.{[], sym, subst, ◌∙◌}
use Rattle.mq_topic.specs.Inside.Found.{Entries, Gathers}
use Rattle.mq_topic.specs.Rows.{IsMatched, matched, row_qos}
use Rattle.mq_topic.proofs.Answering.{answered}
use Rattle.mq_topic.proofs.Greatest.{matched-is, matched-once}
use Rattle.mq_topic.proofs.Outcomes.{both_ok}
use Rattle.mq_topic.proofs.Searching.{Matches}
use Rattle.mq_topic.proofs.trie_store.TrieStoreFilterStore.matching.Goals as goal

pub returns-clause-value : goal.returns-clause-value
returns-clause-value c =
    let rows = c.self.inside.rows in
    let g = c.in_ok-found.ensures (λ d f. row_qos d f rows) c.self.invariant.1 in
    both_ok c.listed.result _ _ _
    (λ list items ascending.
    let found = subst (λ (es : Entries). Gathers (Matches (λ d f. row_qos d f rows) c.as_str.result.now) [] es) (sym items) g in
    let answer = answered c.as_str.result.now rows list.items c.self.invariant.0 ascending found in
    matched-once c.as_str.result.now rows list.items (matched c.as_str.result.now rows) answer (matched-is c.as_str.result.now rows) ∙ (λ i. matched (c.as_str.ensures.value i) (c.self.view_is i)))
    c.listed.ensures.items c.listed.ensures.ascending

pub returns-clause-greatest : goal.returns-clause-greatest
returns-clause-greatest c =
    let rows = c.self.inside.rows in
    let g = c.in_ok-found.ensures (λ d f. row_qos d f rows) c.self.invariant.1 in
    both_ok c.listed.result _ _ _
    (λ list items ascending.
    let found = subst (λ (es : Entries). Gathers (Matches (λ d f. row_qos d f rows) c.as_str.result.now) [] es) (sym items) g in
    let answer = answered c.as_str.result.now rows list.items c.self.invariant.0 ascending found in
    subst (λ name. IsMatched name c.args.self.now list.items) c.as_str.ensures.value (subst (λ rs. IsMatched c.as_str.result.now rs list.items) c.self.view_is answer))
    c.listed.ensures.items c.listed.ensures.ascending
