use Rattle.std.proofs.Common.{◌∙◌, sym, ap, subst}
use Rattle.mq_end.specs.End.{End, is_up}
use Rattle.mq_route.specs.Hub.{end_of}
use Rattle.mq_tables.specs.declared.sessions.session.BrokerSession.{BrokerSession}
use Rattle.mq_tables.specs.Tables.{HubTables}
use Rattle.mq_tables.specs.Sessions.{sessions_of}
use Rattle.mq_tables.proofs.SessionRoom.{some_same}
use Rattle.mq_hub.specs.Inside.Reception.{CanReceive, IsReceived}
use Rattle.mq_hub.proofs.PublishClass.{none_there}
use Rattle.mq_hub.proofs.EndReplies.{end_there}
use Rattle.mq_hub.proofs.publish.reception.class_of.Goals as goal

pub reception_at-requires-clause-up : goal.reception_at-requires-clause-up
reception_at-requires-clause-up g c =
    let can = subst (λ (v : HubTables). CanReceive c.args.key c.args.window v.sessions.list) (sym c.tables.view_is) c.requires in
    let is = some_same (sym can.there ∙ sym c.in-Some.ensures) in
    ap (λ (t : BrokerSession). is_up t.end.end.state) (sym is) ∙ can.up

pub reception_at-requires-clause-known : goal.reception_at-requires-clause-known
reception_at-requires-clause-known g c =
    let can = subst (λ (v : HubTables). CanReceive c.args.key c.args.window v.sessions.list) (sym c.tables.view_is) c.requires in
    let is = some_same (sym can.there ∙ sym c.in-Some.ensures) in
    ap (λ (t : BrokerSession). t.end.end.known) (sym is) ∙ can.known

pub reception_at-requires-clause-window : goal.reception_at-requires-clause-window
reception_at-requires-clause-window g c =
    let can = subst (λ (v : HubTables). CanReceive c.args.key c.args.window v.sessions.list) (sym c.tables.view_is) c.requires in
    let is = some_same (sym can.there ∙ sym c.in-Some.ensures) in
    ap (λ (t : BrokerSession). t.end.end.window) (sym is) ∙ can.window

pub returns-in-Some : goal.returns-in-Some
returns-in-Some g c =
    let ts = c.tables.inside.sessions.list in
    subst (λ (v : HubTables). IsReceived c.reception_at.result c.args.publish.now (end_of c.args.key (sessions_of v.sessions.list))) c.tables.view_is
    (subst (λ (e : End). IsReceived c.reception_at.result c.args.publish.now e)
    (sym (end_there c.args.key c.in-Some.session.now ts (sym c.in-Some.ensures))) c.reception_at.ensures)

pub returns-in-None : goal.returns-in-None
returns-in-None g c =
    let can = subst (λ (v : HubTables). CanReceive c.args.key c.args.window v.sessions.list) (sym c.tables.view_is) c.requires in
    absurd (none_there c.args.key can.session c.tables.inside.sessions.list can.there (sym c.in-None.ensures))
