use Rattle.std.proofs.Common.{◌≡◌, ◌+◌, ◌≤◌, ◌++◌, length}
use Rattle.mq_hub.specs.Inside.Subscriptions.{unsubscribed_acts, without_rows}
use Rattle.mq_hub.proofs.subscriptions.remove_rows.Given as goal

abbrev pub invariant-loop-filter : goal.invariant-loop-filter
invariant-loop-filter g l = record {
  rows : without_rows l.key l.filter-iterator.rest.items (g.S.FilterStore.rows l.store) ≡ without_rows l.key l.fn.filters.items (g.S.FilterStore.rows l.initial.store);
  acts : l.log.acts ++ unsubscribed_acts l.key l.filter-iterator.rest.items ≡ l.initial.log.acts ++ unsubscribed_acts l.key l.fn.filters.items;
  enough : length l.filter-iterator.rest.items ≤ l.log.room;
  room : l.initial.log.room + length l.filter-iterator.rest.items ≤ l.log.room + length l.fn.filters.items;
}
