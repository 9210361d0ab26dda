use Rattle.std.proofs.Common.{◌∙◌, sym, ap}
use Rattle.std.specs.Option.{is_some}
use Rattle.mq_tables.specs.Sessions.{session_at}
use Rattle.mq_tables.specs.Tables.{HubTables}
use Rattle.mq_tables.proofs.SessionLemmas.{copied_there}
use Rattle.mq_hub.specs.Inside.Invariant.{HasSession}
use Rattle.mq_hub.proofs.LoadedParts.{kept_set}
use Rattle.mq_hub.proofs.hub.HubOver.load_row.Goals as goal

pub invariant_of-self-2 : goal.invariant_of-self-2
invariant_of-self-2 g c =
    let h = c.self.inside in
    let t : HubTables = h.tables in
    let key = c.args.row.0.0 in
    let rest = c.set_row.ensures.rest in
    let there : HasSession t.sessions.list key =
    sym (λ i. is_some (session_at key (c.self-inside.view_is i).tables.sessions.list)) ∙ ap is_some (sym c.get.ensures) ∙ copied_there c.get.result c.if-is_none.ensures in
    kept_set h.config h.next_key t c.set_row.new.self c.self.invariant (ap (λ (v : HubTables). v.connections.connections) rest) (ap (λ (v : HubTables). v.connections.limits) rest)
    key c.args.row.0.1 c.args.row.1 there c.in_ok-set_row.ensures.ok (ap (λ (v : HubTables). v.retained.messages) rest) (ap (λ (v : HubTables). v.sessions.list) rest)
