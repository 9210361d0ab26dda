use Rattle.std.proofs.Common.{◌∙◌, sym, ap}
use Rattle.mq_route.specs.Hub.{is_open, stage_of}
use Rattle.mq_tables.specs.Tables.{HubTables}
use Rattle.mq_tables.proofs.ConnectionTable.{unknown_shut}
use Rattle.mq_tables.proofs.tables.Tables.is_open_near.Goals as goal

pub returns-in-Some-Closed-2 : goal.returns-in-Some-Closed-2
returns-in-Some-Closed-2 g c =
    ap is_open (sym (unknown_shut c.args.conn c.self.inside.connections.connections (sym c.in-Some-Closed.ensures.known)))
    ∙ ap (λ (t : HubTables). is_open (stage_of c.args.conn t.connections.connections)) c.self.view_is
