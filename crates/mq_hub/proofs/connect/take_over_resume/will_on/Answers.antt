use Rattle.std.proofs.Common.{◌∙◌, sym, ap}
use Rattle.mq_route.specs.declared.close.HubClose.TheVariants.{TakenOver}
use Rattle.mq_route.specs.Hub.{stage_of}
use Rattle.mq_tables.specs.Tables.{HubTables}
use Rattle.mq_tables.proofs.ConnectionTable.{unknown_shut}
use Rattle.mq_hub.specs.Inside.Close.{will_left}
use Rattle.mq_hub.proofs.connect.take_over_resume.will_on.Goals as goal

pub returns-in-Some : goal.returns-in-Some
returns-in-Some g c =
    c.will_of.ensures ∙ ap (will_left TakenOver) c.in-Some.ensures.stage ∙ ap (λ (t : HubTables). will_left TakenOver (stage_of c.args.conn t.connections.connections))
    c.tables.view_is

pub returns-in-None : goal.returns-in-None
returns-in-None g c =
    ap (will_left TakenOver) (sym (unknown_shut c.args.conn c.tables.inside.connections.connections (sym c.in-None.ensures.known)))
    ∙ ap (λ (t : HubTables). will_left TakenOver (stage_of c.args.conn t.connections.connections)) c.tables.view_is
