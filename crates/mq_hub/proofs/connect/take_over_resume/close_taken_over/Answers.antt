use Rattle.std.proofs.Common.{◌∙◌, ap}
use Rattle.mq_route.specs.declared.close.HubClose.TheVariants.{TakenOver}
use Rattle.mq_hub.specs.Inside.Close.{will_left}
use Rattle.mq_hub.proofs.TakenOutput.{backed_at}
use Rattle.mq_hub.proofs.TakeOverResume.{none_up_with, proceeds_with}
use Rattle.mq_hub.proofs.connect.take_over_resume.close_taken_over.Goals as goal

pub detach_with-stage-requires-clause-there : goal.detach_with-stage-requires-clause-there
detach_with-stage-requires-clause-there g c =
    let t = c.args.tables.now in
    let hubs = c.requires.hubs in
    backed_at hubs.config.limits.most c.args.conn c.args.key t.sessions.list t.connections.connections hubs.keeps.backed c.requires.up

pub returns-clause-proceeds : goal.returns-clause-proceeds
returns-clause-proceeds g c = λ same_rules.
    let p = c.detach_with-stage.ensures in
    proceeds_with c.args.conn TakenOver c.args.key c.args.tables.now c.detach_with-stage.new.self c.requires.hubs c.requires.up p.list p.connections p.limits p.room
    p.up_room p.rest
    same_rules c.args.log.now.acts c.push.new.self.acts c.requires.lasts c.push.ensures.acts

pub returns-clause-will : goal.returns-clause-will
returns-clause-will g c = c.will_left.ensures ∙ ap (will_left TakenOver) c.detach_with-stage.ensures.stage

pub returns-clause-away : goal.returns-clause-away
returns-clause-away g c =
    let p = c.detach_with-stage.ensures in
    none_up_with c.args.conn TakenOver c.args.key c.args.tables.now c.detach_with-stage.new.self c.requires.hubs c.requires.up p.list p.connections p.limits p.room p.up_room
    p.rest

pub returns-clause-connect_end : goal.returns-clause-connect_end
returns-clause-connect_end g c = λ connect ms h. c.detach_with-stage.ensures.connect_end connect ms 0 h
