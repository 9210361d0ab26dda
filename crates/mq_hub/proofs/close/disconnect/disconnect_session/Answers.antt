use Rattle.std.proofs.Common.{◌∙◌, ap}
use Rattle.mq_hub.specs.Inside.Close.{will_left}
use Rattle.mq_hub.proofs.TakenOutput.{backed_at}
use Rattle.mq_hub.proofs.TableParts.{clients_parted, proceeds_parted, up_none}
use Rattle.mq_hub.proofs.close.disconnect.disconnect_session.Goals as goal

pub detach-stage-requires-clause-there : goal.detach-stage-requires-clause-there
detach-stage-requires-clause-there g c =
    let t = c.args.tables.now in
    let hubs = c.requires.hubs in
    backed_at hubs.config.limits.most c.args.conn c.args.key t.sessions.list t.connections.connections hubs.keeps.backed c.requires.up

pub returns-clause-proceeds : goal.returns-clause-proceeds
returns-clause-proceeds g c = λ same_rules.
    let p = c.detach-stage.ensures in
    proceeds_parted c.args.conn c.args.why c.args.key c.args.tables.now c.detach-stage.new.self c.requires.hubs c.requires.up p.list p.connections p.limits p.room p.up_room p.rest
    same_rules c.args.log.now.acts c.push.new.self.acts c.requires.clean c.push.ensures.acts

pub returns-clause-will : goal.returns-clause-will
returns-clause-will g c = c.will_left.ensures ∙ ap (will_left c.args.why) c.detach-stage.ensures.stage

pub returns-clause-away : goal.returns-clause-away
returns-clause-away g c =
    let p = c.detach-stage.ensures in
    up_none c.args.conn c.args.why c.args.key c.args.tables.now c.detach-stage.new.self c.requires.hubs c.requires.up p.list p.connections p.limits p.room p.up_room p.rest

pub returns-clause-clients : goal.returns-clause-clients
returns-clause-clients g c =
    let p = c.detach-stage.ensures in
    clients_parted c.args.conn c.args.why c.args.key c.args.tables.now c.detach-stage.new.self c.requires.hubs c.requires.up p.list p.connections p.limits p.room p.up_room p.rest
