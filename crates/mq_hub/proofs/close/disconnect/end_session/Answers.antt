use Rattle.std.proofs.Common.{◌∙◌, List, ◌∷◌, [], ◌++◌, ap}
use Rattle.mq_route.specs.declared.act.Act.{Act}
use Rattle.mq_route.specs.declared.act.Act.TheVariants.{Removed}
use Rattle.mq_route.specs.Hub.{up_on}
use Rattle.mq_tables.specs.Tables.{HubTables}
use Rattle.mq_hub.specs.Inside.Close.{will_left}
use Rattle.mq_hub.proofs.TakenOutput.{backed_at}
use Rattle.mq_hub.proofs.TableParts.{clients_parted, proceeds_left, up_none}
use Rattle.mq_hub.proofs.close.disconnect.end_session.Goals as goal

pub detach-stage-requires-clause-there : goal.detach-stage-requires-clause-there
detach-stage-requires-clause-there g c =
    let t = c.args.tables.now in
    let hubs = c.requires.hubs in
    backed_at hubs.config.limits.most c.args.conn c.args.key t.sessions.list t.connections.connections hubs.keeps.backed c.requires.up

pub returns-clause-proceeds : goal.returns-clause-proceeds
returns-clause-proceeds g c = λ same_rules.
    let p = c.detach-stage.ensures in
    let r = c.remove.ensures in
    proceeds_left c.args.conn c.args.why c.args.key c.args.tables.now c.detach-stage.new.self c.requires.hubs c.requires.up p.list p.connections p.limits p.room p.up_room p.rest
    same_rules c.remove.new.self c.args.log.now.acts c.push-2.new.self.acts r.rows r.list r.room r.rest
    (c.push-2.ensures.acts ∙ ap (λ (a : List Act). a ++ Removed c.args.key ∷ []) c.push.ensures.acts)

pub returns-clause-will : goal.returns-clause-will
returns-clause-will g c = c.will_left.ensures ∙ ap (will_left c.args.why) c.detach-stage.ensures.stage

pub returns-clause-away : goal.returns-clause-away
returns-clause-away g c =
    let p = c.detach-stage.ensures in
    ap (λ (a : HubTables). up_on c.args.key a.connections.connections) c.remove.ensures.rest
    ∙ up_none c.args.conn c.args.why c.args.key c.args.tables.now c.detach-stage.new.self c.requires.hubs c.requires.up p.list p.connections p.limits p.room p.up_room p.rest

pub returns-clause-gone : goal.returns-clause-gone
returns-clause-gone g c = λ n stands.
    let p = c.detach-stage.ensures in
    c.remove.ensures.client n
    (clients_parted c.args.conn c.args.why c.args.key c.args.tables.now c.detach-stage.new.self c.requires.hubs c.requires.up p.list p.connections p.limits p.room p.up_room p.rest n
    ∙ stands)
