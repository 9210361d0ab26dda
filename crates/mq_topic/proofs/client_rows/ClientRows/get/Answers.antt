use Rattle.std.proofs.Common.{Option, None, sym, ap, subst, ◌∙◌}
use Rattle.std.specs.Map.{lookup}
use Rattle.std.specs.Option.{option_map_or}
use Rattle.mq_topic.specs.Rows.{IsAscending, row_qos}
use Rattle.mq_topic.proofs.ClientMaps.{Own, ascending, is_filter, rows_qos}
use Rattle.mq_topic.proofs.Placing.{T-true}
use Rattle.mq_topic.proofs.client_rows.ClientRows.get.Goals as goal

pub returns-in-Some-clause-value : goal.returns-in-Some-clause-value
returns-in-Some-clause-value c =
    let f = c.args.filter.now in
    let rows = rows_qos c.args.client f c.self.inside.clients.entries (T-true _ c.self.invariant.clients) in
    c.copied.ensures ∙ c.get-in-Some.ensures.value
    ∙ ap (λ (o : Option Own). option_map_or (λ (own : Own). lookup (is_filter f) own.entries) o None) c.in-Some.ensures.value
    ∙ sym rows ∙ ap (row_qos c.args.client f) c.self.view_is

pub returns-in-Some-clause-ascending : goal.returns-in-Some-clause-ascending
returns-in-Some-clause-ascending c = subst IsAscending c.self.view_is (ascending c.self.inside.clients.entries c.self.invariant)

pub returns-in-None-clause-value : goal.returns-in-None-clause-value
returns-in-None-clause-value c =
    let f = c.args.filter.now in
    let rows = rows_qos c.args.client f c.self.inside.clients.entries (T-true _ c.self.invariant.clients) in
    ap (λ (o : Option Own). option_map_or (λ (own : Own). lookup (is_filter f) own.entries) o None) c.in-None.ensures.value
    ∙ sym rows ∙ ap (row_qos c.args.client f) c.self.view_is

pub returns-in-None-clause-ascending : goal.returns-in-None-clause-ascending
returns-in-None-clause-ascending c = subst IsAscending c.self.view_is (ascending c.self.inside.clients.entries c.self.invariant)
