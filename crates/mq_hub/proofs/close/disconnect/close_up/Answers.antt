use Rattle.std.proofs.Common.{◌∙◌, List, ap}
use Rattle.mq_route.specs.Hub.{key_of, up_on}
use Rattle.mq_tables.specs.declared.sessions.session.BrokerSession.{BrokerSession}
use Rattle.mq_tables.specs.Connections.{ConnectionList}
use Rattle.mq_tables.specs.Sessions.{sessions_of}
use Rattle.mq_tables.specs.Tables.{HubTables}
use Rattle.mq_tables.proofs.DisconnectTimes.{named_marked}
use Rattle.mq_hub.proofs.DisconnectTimes.{proceeds_marked}
use Rattle.mq_hub.proofs.TableParts.{hubs_after, proceeds_closed, will_after_close}
use Rattle.mq_hub.proofs.close.disconnect.close_up.Goals as goal

pub last_will-requires-clause-hubs : goal.last_will-requires-clause-hubs
last_will-requires-clause-hubs g c =
    hubs_after c.args.rules _ c.args.tables.now c.end_or_disconnect-will.new.tables c.args.log.now.acts c.end_or_disconnect-will.new.log.acts c.requires.hubs (c.end_or_disconnect-will.ensures.proceeds c.args.rules)

pub last_will-requires-clause-within : goal.last_will-requires-clause-within
last_will-requires-clause-within g c =
    will_after_close c.args.rules _ c.args.conn c.args.why c.end_or_disconnect-will.result c.args.tables.now c.end_or_disconnect-will.new.tables c.args.log.now.acts c.end_or_disconnect-will.new.log.acts
    c.requires.hubs (c.end_or_disconnect-will.ensures.proceeds c.args.rules) c.end_or_disconnect-will.ensures.will

pub returns-clause-proceeds : goal.returns-clause-proceeds
returns-clause-proceeds g c =
    proceeds_marked c.args.key c.args.now c.last_will.new.tables c.mark_left.new.self c.mark_left.ensures.list c.mark_left.ensures.rest c.args.rules c.args.conn c.args.why
    c.args.tables.now c.args.log.now.acts c.last_will.new.log.acts c.requires.up c.mark_left.ensures.room
    (proceeds_closed c.args.rules c.args.conn c.args.why c.args.key c.end_or_disconnect-will.result c.args.tables.now c.end_or_disconnect-will.new.tables c.last_will.new.tables c.args.log.now.acts
    c.end_or_disconnect-will.new.log.acts c.last_will.new.log.acts c.requires.up c.end_or_disconnect-will.ensures.will (c.end_or_disconnect-will.ensures.proceeds c.args.rules) c.last_will.ensures.goes
    c.last_will.ensures.spares)

pub returns-clause-away : goal.returns-clause-away
returns-clause-away g c =
    ap (λ (v : HubTables). up_on c.args.key v.connections.connections) c.mark_left.ensures.rest
    ∙ ap (λ (l : ConnectionList). up_on c.args.key l.connections) c.last_will.ensures.spares.connections ∙ c.end_or_disconnect-will.ensures.away

pub returns-clause-clients : goal.returns-clause-clients
returns-clause-clients g c = λ lasts n.
    (ap (λ (ts : List BrokerSession). key_of n (sessions_of ts)) c.mark_left.ensures.list ∙ named_marked c.args.key c.args.now n c.last_will.new.tables.sessions.list)
    ∙ c.last_will.ensures.spares.clients n ∙ c.end_or_disconnect-will.ensures.clients lasts n

pub returns-clause-gone : goal.returns-clause-gone
returns-clause-gone g c = λ ends n stands.
    (ap (λ (ts : List BrokerSession). key_of n (sessions_of ts)) c.mark_left.ensures.list ∙ named_marked c.args.key c.args.now n c.last_will.new.tables.sessions.list)
    ∙ c.last_will.ensures.spares.clients n ∙ c.end_or_disconnect-will.ensures.gone ends n stands
