use Rattle.std.proofs.Common.{sym, ◌∙◌}
use Rattle.mq_durable.proofs.Runs.{replays_one}
use Rattle.mq_durable.proofs.progress.replay_on.Goals as goal

pub returns-else-reports_memory : goal.returns-else-reports_memory
returns-else-reports_memory c = replays_one c.args.hub.now c.step.new.self c.args.event.now c.in-Ok.reply c.in-Ok.ensures.step (sym c.reports_memory.ensures ∙ c.if-reports_memory.false)
