use Rattle.std.proofs.Common.{◌∙◌, List, sym, ap, subst}
use Rattle.mq_tables.specs.Inside.Subscriptions.{AreThere, Before, rows_back}
use Rattle.mq_tables.proofs.RestoredRows.{back_last, last_there}
use Rattle.mq_tables.proofs.subscriptions.put_all_back.Goals as goal

pub put_back-requires : goal.put_back-requires
put_back-requires g c =
    let rows = g.S.FilterStore.rows c.loop-filter.store in
    let key = c.args.key in
    (last_there key (c.in-Some.filter, c.in-Some.qos) c.pop.new.self.items rows
    (subst (λ (bs : List Before). AreThere key bs rows) c.in-Some.ensures.items c.loop-filter.invariant.there)).0

pub loop-filter-preserved : goal.loop-filter-preserved
loop-filter-preserved g c =
    let rows = g.S.FilterStore.rows c.loop-filter.store in
    let key = c.args.key in
    let rest = c.pop.new.self.items in
    let there = last_there key (c.in-Some.filter, c.in-Some.qos) rest rows
    (subst (λ (bs : List Before). AreThere key bs rows) c.in-Some.ensures.items c.loop-filter.invariant.there) in
    record {
      there = subst (AreThere key rest) (sym c.put_back.ensures) there.1;
      back = ap (rows_back key rest) c.put_back.ensures ∙ sym (back_last key (c.in-Some.filter, c.in-Some.qos) rest rows)
          ∙ ap (λ (bs : List Before). rows_back key bs rows) (sym c.in-Some.ensures.items) ∙ c.loop-filter.invariant.back;
    }
