use Rattle.std.proofs.Common.{◌∙◌, length, sym, ap}
use Rattle.mq_route.specs.Hub.{HubState, waiting_on}
use Rattle.mq_tables.specs.Output.{output_of}
use Rattle.mq_hub.proofs.ConnectionChange.{waiting_own}
use Rattle.mq_hub.proofs.PendingLengths.{key_waits}
use Rattle.mq_hub.proofs.hub.HubOver.pending.Goals as goal

pub returns-in-Some : goal.returns-in-Some
returns-in-Some g c =
    let t = c.self.inside.tables in
    c.pending.ensures
    ∙ (λ i. length (output_of c.in-Some.key (c.self-inside.view_is i).tables.sessions.list))
    ∙ ap length (sym (key_waits c.args.conn c.in-Some.key t.sessions.list t.connections.connections (sym c.in-Some.ensures)))
    ∙ ap (λ (v : HubState). length (waiting_on c.args.conn v.connections)) c.self.view_is

pub returns-in-None : goal.returns-in-None
returns-in-None g c =
    let t = c.self.inside.tables in
    c.own_pending.ensures
    ∙ (λ i. length (waiting_on c.args.conn (c.self-inside.view_is i).tables.connections.connections))
    ∙ ap length (sym (waiting_own c.args.conn t.sessions.list t.connections.connections (sym c.in-None.ensures)))
    ∙ ap (λ (v : HubState). length (waiting_on c.args.conn v.connections)) c.self.view_is
