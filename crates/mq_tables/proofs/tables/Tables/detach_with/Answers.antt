use Rattle.std.proofs.Common.{◌≡◌, ◌∙◌, sym, ap, subst}
use Rattle.std.specs.Option.{IfSome}
use Rattle.mq_route.specs.Hub.{key_on, stage_of, with_connection}
use Rattle.mq_tables.specs.Connections.{left_with}
use Rattle.mq_tables.specs.Connecting.{HasConnectRoomAt}
use Rattle.mq_tables.specs.Tables.{HubTables}
use Rattle.mq_tables.specs.Sessions.{session_at}
use Rattle.mq_tables.proofs.ClientClose.{left_lines, up_known}
use Rattle.mq_tables.proofs.tables.Tables.detach_with.Goals as goal

pub shut_with-requires : goal.shut_with-requires
shut_with-requires g c =
    let k = c.args.conn in
    up_known k c.args.key c.self.inside.connections.connections (ap (λ (t : HubTables). key_on (stage_of k t.connections.connections)) c.self.view_is ∙ c.requires.up)

pub returns-clause-connections : goal.returns-clause-connections
returns-clause-connections g c =
    let k = c.args.conn in
    let key = c.args.key in
    let t = c.self.inside in
    subst (λ (v : HubTables). IfSome (session_at key v.sessions.list) (λ s. c.shut_with.new.self.connections ≡ with_connection (left_with s.end.output) k v.connections.connections)) c.self.view_is
    (left_lines k (session_at key t.sessions.list) c.args.waiting t.connections.connections c.shut_with.new.self.connections
    (subst (λ (v : HubTables). IfSome (session_at key v.sessions.list) (λ s. c.args.waiting ≡ s.end.output)) (sym c.self.view_is) c.requires.waiting) c.shut_with.ensures.connections)

pub returns-clause-connect_end : goal.returns-clause-connect_end
returns-clause-connect_end g c = λ connect ms more h.
    c.lose_connection.ensures.connect_end connect ms more (subst (λ (v : HubTables). HasConnectRoomAt connect c.args.key ms more v.sessions.list) (sym c.self.view_is) h)
