use Rattle.std.proofs.Common.{◌∙◌, ap}
use Rattle.mq_route.specs.declared.connection_state.ConnectionState.TheVariants.{ConnectedAs}
use Rattle.mq_route.specs.Hub.{with_connection}
use Rattle.mq_tables.specs.Tables.{HubTables}
use Rattle.mq_tables.proofs.tables.Tables.resume_session.Goals as goal

pub returns-clause-connections : goal.returns-clause-connections
returns-clause-connections g c =
    c.connect_end.ensures.connections
    ∙ ap (λ (t : HubTables). with_connection (λ x. record x { stage = ConnectedAs c.args.key c.args.terms c.args.now }) c.args.conn t.connections.connections) c.self.view_is
