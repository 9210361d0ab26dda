use Rattle.std.proofs.Common.{◌∙◌, sym, ap}
use Rattle.mq_route.specs.Hub.{HubState, knows}
use Rattle.mq_hub.proofs.TableView.{knows_seen}
use Rattle.mq_hub.proofs.hub.HubOver.knows.Goals as goal

pub returns : goal.returns
returns g c =
    c.knows.ensures
    ∙ (λ i. knows c.args.conn (c.self-inside.view_is i).tables.connections.connections)
    ∙ sym (knows_seen c.args.conn c.self.inside.tables.sessions.list c.self.inside.tables.connections.connections)
    ∙ ap (λ (h : HubState). knows c.args.conn h.connections) c.self.view_is
