use Rattle.std.proofs.Common.{◌∙◌, sym, ap}
use Rattle.mq_route.specs.Hub.{is_clean, stage_of}
use Rattle.mq_tables.specs.Tables.{HubTables}
use Rattle.mq_tables.proofs.ConnectionTable.{unknown_shut}
use Rattle.mq_tables.proofs.tables.Tables.is_clean.Goals as goal

pub returns-in-Some-AwaitingConnect-3 : goal.returns-in-Some-AwaitingConnect-3
returns-in-Some-AwaitingConnect-3 g c =
    ap is_clean (sym (unknown_shut c.args.conn c.self.inside.connections.connections (sym c.in-Some-AwaitingConnect.ensures.known)))
    ∙ ap (λ (t : HubTables). is_clean (stage_of c.args.conn t.connections.connections)) c.self.view_is
