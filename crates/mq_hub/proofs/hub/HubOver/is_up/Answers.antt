use Rattle.std.proofs.Common.{◌∙◌, sym, ap}
use Rattle.std.specs.Option.{is_some}
use Rattle.mq_route.specs.Hub.{HubState, up_on}
use Rattle.mq_tables.specs.Tables.{HubTables}
use Rattle.mq_hub.proofs.ConnectionChange.{up_seen}
use Rattle.mq_hub.proofs.hub.HubOver.is_up.Goals as goal

pub returns : goal.returns
returns g c =
    let t : HubTables = c.self.inside.tables in
    c.is_up.ensures
    ∙ ap is_some (sym (up_seen c.args.key t.sessions.list t.connections.connections))
    ∙ ap (λ (h : HubState). is_some (up_on c.args.key h.connections)) c.self.view_is
