use Rattle.std.proofs.Common.{◌∙◌, sym, ap}
use Rattle.mq_route.specs.Hub.{HubState, is_open, stage_of}
use Rattle.mq_hub.proofs.ConnectionChange.{stage_seen}
use Rattle.mq_hub.proofs.hub.HubOver.is_open_near.Goals as goal

pub returns : goal.returns
returns g c =
    c.is_open_near.ensures
    ∙ ap is_open (sym (stage_seen c.args.conn c.self.inside.tables.sessions.list c.self.inside.tables.connections.connections))
    ∙ ap (λ (h : HubState). is_open (stage_of c.args.conn h.connections)) c.self.view_is
