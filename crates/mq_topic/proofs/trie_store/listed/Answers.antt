use Rattle.std.proofs.Common.{◌++◌, IsTrue, sym, ap, subst, ◌∙◌}
use Rattle.std.specs.FinMap.{is_sorted}
use Rattle.std.specs.Ordering.{nat_cmp}
use Rattle.mq_topic.proofs.ClientMaps.{clients_in_order}
use Rattle.mq_topic.proofs.Paths.{append_nil}
use Rattle.mq_topic.proofs.trie_store.listed.Goals as goal

pub returns-clause-ascending : goal.returns-clause-ascending
returns-clause-ascending c =
    let list = c.found.list.items in
    let whole = sym (append_nil list) ∙ ap (λ xs. list ++ xs) (sym c.in-None.ensures.steps.0) ∙ c.found.invariant in
    subst (λ es. IsTrue (is_sorted nat_cmp es)) (sym whole) (clients_in_order c.args.found.now.entries c.iter-client-items.ensures.ordered)
