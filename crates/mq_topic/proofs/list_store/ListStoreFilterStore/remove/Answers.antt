use Rattle.std.proofs.Common.{is_some, sym, ap, ◌∙◌}
use Rattle.mq_topic.specs.Rows.{Key}
use Rattle.mq_topic.proofs.Storing.{ascending-without_row, without_absent}
use Rattle.mq_topic.proofs.list_store.ListStoreFilterStore.remove.Goals as goal

pub invariant_of-self : goal.invariant_of-self
invariant_of-self c = rw c.drop_row.ensures (ascending-without_row c.args.client c.args.filter.now c.self.inside.rows.entries c.self.invariant)

pub returns-else-found-clause-value : goal.returns-else-found-clause-value
returns-else-found-clause-value c =
    let key : Key = (c.args.client, c.args.filter.now) in
    let none = sym (c.is_some-found.ensures ∙ ap is_some c.qos_at.ensures) ∙ c.if-found.false in
    sym (rw c.self.view_is at (without_absent key c.self.inside.rows.entries none))
