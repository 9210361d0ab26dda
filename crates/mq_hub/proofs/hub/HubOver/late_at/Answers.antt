use Rattle.std.proofs.Common.{◌≡◌, ◌∙◌, ◌+◌, false, drop, sym, ap}
use Rattle.std.specs.List.{slice_get}
use Rattle.mq_route.specs.declared.close.HubClose.{HubClose}
use Rattle.mq_route.specs.declared.conn.Conn.{Conn}
use Rattle.mq_route.specs.Hub.{HubState, HubConnection, knows}
use Rattle.mq_tables.specs.Connections.{connection_of}
use Rattle.mq_tables.specs.Tables.{HubTables}
use Rattle.mq_hub.proofs.LastActivity.{if_some}
use Rattle.mq_hub.proofs.LateWalk.{apart_seen, late_name}
use Rattle.mq_hub.proofs.hub.HubOver.late_at.Goals as goal

pub returns-clause-apart : goal.returns-clause-apart
returns-clause-apart g c =
    let t : HubTables = c.self.inside.tables in
    let x : HubConnection = connection_of c.in_ok-connection.connection.now in
    if_some (λ (late : Conn × HubClose). knows late.0 (drop (c.args.index + 1) c.args.self.now.connections) ≡ false) c.late.result
    (λ late is. ap (λ (h : HubState). knows late.0 (drop (c.args.index + 1) h.connections)) (sym c.self.view_is)
    ∙ apart_seen c.args.index late.0 x t.sessions.list t.connections.connections c.self.invariant.apart
    (sym (c.in_ok-connection.ensures ∙ (λ i. slice_get (c.self-inside.view_is i).tables.connections.connections c.args.index)))
    (late_name c.args.within c.args.now x late.0 late.1 (sym is ∙ c.late.ensures)))
