use Rattle.std.proofs.Common.{◌∙◌}
use Rattle.mq_hub.proofs.RemovedConnection.{ended_step}
use Rattle.mq_hub.proofs.hub.HubOver.on_end.Goals as goal

pub returns-clause-step : goal.returns-clause-step
returns-clause-step g c =
    ended_step c.args.conn c.args.self.now c.close_open.new.self c.forget.new.self c.reserve.new.self.acts c.close_open.new.log.acts
    c.into_reply.result c.requires
    (c.reserve.ensures.same ∙ c.new-log.ensures) c.close_open.ensures.goes c.forget.ensures c.into_reply.ensures
