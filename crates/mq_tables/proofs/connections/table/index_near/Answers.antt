use Rattle.std.proofs.Common.{◌∙◌, List, slice_get, sym, ap}
use Rattle.mq_tables.proofs.ConnectionTable.{Entry, key_passes, symm}
use Rattle.mq_tables.proofs.connections.table.index_near.Goals as goal

pub returns-in-Some-clause-some : goal.returns-in-Some-clause-some
returns-in-Some-clause-some c =
    let near : Entry = (c.in-Some.near.0.now, c.in-Some.near.1.now) in (
      near,
      ap (λ (xs : List Entry). slice_get xs c.args.place) (sym c.as_slice.ensures.entries) ∙ sym c.in-Some.ensures.entry,
      symm c.args.conn near.0 ∙ (sym c.eq.ensures ∙ c.if-eq.true),
    )

pub returns-in-Some-get_full-clause-some : goal.returns-in-Some-get_full-clause-some
returns-in-Some-get_full-clause-some c =
    let found = c.in-Some-get_full.found in (
      (found.1.now, found.2.now),
      c.in-Some-get_full.ensures.entry,
      key_passes c.args.conn c.args.by_conn.now.entries found.1.now (sym c.in-Some-get_full.ensures.key),
    )

pub returns-in-None-clause-none : goal.returns-in-None-clause-none
returns-in-None-clause-none c = sym c.in-None.ensures.value
