use Rattle.std.proofs.Common.{◌≡◌, List, sym, subst, ◌∙◌}
use Rattle.std.proofs.lemmas.List.{map-id}
use Rattle.std.proofs.lemmas.Iterator.Adapters.{YieldsList-from_vec}
use Rattle.std.proofs.lemmas.Iterator.Consumers.{YieldsList-end}
use Rattle.mq_picture.specs.declared.entry.RecordEntry.{RecordEntry}
use Rattle.mq_picture.specs.Inside.Lanes.{IsChart}
use Rattle.mq_picture.proofs.Charts.{chart_draws}
use Rattle.mq_picture.proofs.rows.rows_of.Goals as goal

pub loop-entry-preserved : goal.loop-entry-preserved
loop-entry-preserved c = c.in_ok-draw.ensures c.loop-entry.yielded c.loop-entry.invariant

pub returns : goal.returns
returns c =
    let drawn = c.loop-entry.yielded in
    let given = c.into_iter-entry-iterator.ensures.into_iter_gives in
    let source = YieldsList-from_vec {s = c.into_iter-entry-iterator.result} c.args.entries.items given.0 (given.1 ∙ c.args.entries.ok.0) in
    let all = YieldsList-end source drawn c.loop-entry.entry-iterator c.loop-entry.yielded_by c.next.result c.next.new.self c.in-None.is c.next.ensures.steps in
    let items : drawn ≡ c.args.entries.items = sym (map-id drawn) ∙ all.0 in
    let first : IsChart drawn c.end_all.new.self = c.in_ok-end_all.ensures.chart drawn c.loop-entry.invariant in
    let chart : IsChart drawn c.end_all-2.new.self = c.in_ok-end_all-2.ensures.chart drawn first in
    chart_draws c.args.entries.items c.end_all-2.new.self (subst (λ (es : List RecordEntry). IsChart es c.end_all-2.new.self) items chart)
    (c.in_ok-end_all-2.ensures.client ∙ c.in_ok-end_all.ensures.client) c.in_ok-end_all-2.ensures.server
