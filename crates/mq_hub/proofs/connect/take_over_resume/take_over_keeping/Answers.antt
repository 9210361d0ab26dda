use Rattle.std.proofs.Common.{◌<◌, ◌^◌, ◌∙◌, [], Bool, Option, sym, ap, subst}
use Rattle.mq_packet.specs.declared.connect.Will.{Will}
use Rattle.mq_route.specs.declared.close.HubClose.TheVariants.{TakenOver}
use Rattle.mq_route.specs.Hub.{up_on}
use Rattle.mq_tables.specs.declared.connections.table.ConnectionLimits.{ConnectionLimits}
use Rattle.mq_tables.specs.Connections.{ConnectionList}
use Rattle.mq_tables.specs.Connecting.{HasConnectRoomAt}
use Rattle.mq_tables.specs.Tables.{HubTables}
use Rattle.mq_tables.proofs.DisconnectTimes.{room_marked}
use Rattle.mq_hub.specs.Inside.Close.{parts}
use Rattle.mq_hub.specs.Inside.TableSteps.{Proceeds}
use Rattle.mq_hub.specs.Inside.ConnectRoom.{will_messages}
use Rattle.mq_hub.proofs.DisconnectTimes.{proceeds_marked}
use Rattle.mq_hub.proofs.TableParts.{hubs_after, proceeds_closed, will_after_close}
use Rattle.mq_hub.proofs.connect.take_over_resume.take_over_keeping.Goals as goal

pub last_will-requires-clause-hubs : goal.last_will-requires-clause-hubs
last_will-requires-clause-hubs g c =
    hubs_after c.args.rules _ c.args.tables.now c.close_taken_over-will.new.tables c.args.log.now.acts c.close_taken_over-will.new.log.acts c.requires.hubs (c.close_taken_over-will.ensures.proceeds c.args.rules)

pub last_will-requires-clause-within : goal.last_will-requires-clause-within
last_will-requires-clause-within g c =
    will_after_close c.args.rules _ c.args.conn TakenOver c.close_taken_over-will.result c.args.tables.now c.close_taken_over-will.new.tables c.args.log.now.acts
    c.close_taken_over-will.new.log.acts
    c.requires.hubs (c.close_taken_over-will.ensures.proceeds c.args.rules) c.close_taken_over-will.ensures.will

pub returns-clause-proceeds : goal.returns-clause-proceeds
returns-clause-proceeds g c =
    let k = c.args.conn in
    let key = c.args.key in
    let first =
    subst (λ (b : Bool). Proceeds c.args.rules (λ fits. parts k TakenOver key b) c.args.tables.now c.args.log.now.acts c.close_taken_over-will.new.tables c.close_taken_over-will.new.log.acts)
    (sym c.requires.lasts) (c.close_taken_over-will.ensures.proceeds c.args.rules) in
    proceeds_marked key c.args.now c.last_will.new.tables c.mark_left.new.self c.mark_left.ensures.list c.mark_left.ensures.rest c.args.rules k TakenOver
    c.args.tables.now c.args.log.now.acts c.last_will.new.log.acts c.requires.up c.mark_left.ensures.room
    (proceeds_closed c.args.rules k TakenOver key c.close_taken_over-will.result c.args.tables.now c.close_taken_over-will.new.tables c.last_will.new.tables c.args.log.now.acts
    c.close_taken_over-will.new.log.acts c.last_will.new.log.acts c.requires.up c.close_taken_over-will.ensures.will first c.last_will.ensures.goes
    c.last_will.ensures.spares)

pub returns-clause-away : goal.returns-clause-away
returns-clause-away g c =
    ap (λ (v : HubTables). up_on c.args.key v.connections.connections) c.mark_left.ensures.rest
    ∙ ap (λ (l : ConnectionList). up_on c.args.key l.connections) c.last_will.ensures.spares.connections ∙ c.close_taken_over-will.ensures.away

pub returns-clause-connect_end : goal.returns-clause-connect_end
returns-clause-connect_end g c = λ connect small h.
    let key = c.args.key in
    let first = c.close_taken_over-will.ensures in
    subst (HasConnectRoomAt connect key [] 0) (sym c.mark_left.ensures.list)
    (room_marked key c.args.now connect key [] 0 c.last_will.new.tables.sessions.list
    (c.last_will.ensures.connect_end.connect_end connect key (subst (λ (l : ConnectionLimits). l.packets.most < 2 ^ 28) (sym first.limits) small) first.away
    (subst (λ (o : Option Will). HasConnectRoomAt connect key (will_messages o) 0 c.close_taken_over-will.new.tables.sessions.list) (sym first.will)
    (first.connect_end connect (will_messages _) h))))
