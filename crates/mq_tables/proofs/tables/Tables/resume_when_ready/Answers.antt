use Rattle.std.proofs.Common.{◌∙◌, [], sym, ap, subst}
use Rattle.std.specs.Option.{is_some}
use Rattle.mq_route.specs.declared.connection_state.ConnectionState.TheVariants.{ConnectedAs}
use Rattle.mq_route.specs.Hub.{with_connection}
use Rattle.mq_tables.specs.Connecting.{connected_end, HasConnectRoomAt, HasConnected}
use Rattle.mq_tables.specs.Tables.{HubTables}
use Rattle.mq_tables.proofs.RoomToConnect.{changed_there}
use Rattle.mq_tables.proofs.tables.Tables.resume_when_ready.Goals as goal

pub returns-clause-list : goal.returns-clause-list
returns-clause-list g c =
    let key = c.args.key in
    let to = connected_end c.args.connect c.args.now in
    let ready = subst (λ (v : HubTables). HasConnectRoomAt c.args.connect key [] 0 v.sessions.list) (sym c.self.view_is) c.requires.ready in
    let p = changed_there to key c.self.inside.sessions.list c.connect_end.new.self.list (ap is_some ready.there) c.connect_end.ensures.list in
    subst (λ (v : HubTables). HasConnected c.args.connect c.args.now key v.sessions.list c.connect_end.new.self.list) c.self.view_is
    (record { session = p.session; there = p.there; room = p.session.end.room; after = p.after })

pub returns-clause-connections : goal.returns-clause-connections
returns-clause-connections g c =
    c.connect_end-2.ensures.connections
    ∙ ap (λ (t : HubTables). with_connection (λ x. record x { stage = ConnectedAs c.args.key c.args.terms c.args.now }) c.args.conn t.connections.connections) c.self.view_is
