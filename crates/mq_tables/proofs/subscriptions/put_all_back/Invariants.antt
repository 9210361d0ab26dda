use Rattle.std.proofs.Common.{◌≡◌, vec_len}
use Rattle.mq_tables.specs.Inside.Subscriptions.{rows_back, AreThere}
use Rattle.mq_tables.proofs.subscriptions.put_all_back.Given as goal

abbrev pub invariant-loop-filter : goal.invariant-loop-filter
invariant-loop-filter g l = record {
  there : AreThere l.key l.left.items (g.S.FilterStore.rows l.store);
  back : rows_back l.key l.left.items (g.S.FilterStore.rows l.store) ≡ rows_back l.key l.fn.befores.items (g.S.FilterStore.rows l.initial.store);
}

abbrev pub decreases-loop-filter : goal.decreases-loop-filter
decreases-loop-filter g l = vec_len l.left
