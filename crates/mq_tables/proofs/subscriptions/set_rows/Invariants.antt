use Rattle.std.proofs.Common.{◌≡◌, drop}
use Rattle.mq_tables.specs.Subscriptions.{with_rows}
use Rattle.mq_tables.specs.Inside.Subscriptions.{rows_back, AreThere}
use Rattle.mq_tables.proofs.subscriptions.set_rows.Given as goal

abbrev pub invariant-loop-request : goal.invariant-loop-request
invariant-loop-request g l = record {
  rows : with_rows l.key (drop l.request-index l.requests) (g.S.FilterStore.rows l.store) ≡ with_rows l.key l.requests (g.S.FilterStore.rows l.initial.store);
  back : rows_back l.key l.befores.items (g.S.FilterStore.rows l.store) ≡ g.S.FilterStore.rows l.initial.store;
  there : AreThere l.key l.befores.items (g.S.FilterStore.rows l.store);
}
