use Rattle.std.proofs.Common.{◌≡◌, ◌∙◌, ap, subst}
use Rattle.std.specs.Option.{IfSome}
use Rattle.mq_route.specs.Hub.{key_on, stage_of, with_connection}
use Rattle.mq_tables.specs.Connections.{left_with}
use Rattle.mq_tables.specs.Tables.{HubTables}
use Rattle.mq_tables.specs.Sessions.{session_at}
use Rattle.mq_tables.proofs.ClientClose.{left_lines, up_known}
use Rattle.mq_tables.proofs.tables.Tables.detach.Goals as goal

pub shut_with-requires : goal.shut_with-requires
shut_with-requires g c =
    let k = c.args.conn in
    up_known k c.args.key c.self.inside.connections.connections (ap (λ (t : HubTables). key_on (stage_of k t.connections.connections)) c.self.view_is ∙ c.requires.up)

pub returns-clause-connections : goal.returns-clause-connections
returns-clause-connections g c =
    let k = c.args.conn in
    let key = c.args.key in
    let t = c.self.inside in
    subst (λ (v : HubTables). IfSome (session_at key v.sessions.list) (λ s. c.shut_with.new.self.connections ≡ with_connection (left_with s.end.output) k v.connections.connections)) c.self.view_is
    (left_lines k (session_at key t.sessions.list) c.detach.new.output t.connections.connections c.shut_with.new.self.connections c.detach.ensures.output c.shut_with.ensures.connections)
