use Rattle.std.proofs.Common.{sym}
use Rattle.mq_durable.proofs.Reports.{other_act}
use Rattle.mq_durable.proofs.report.lacks_memory.Goals as goal

pub returns-in_default : goal.returns-in_default
returns-in_default c = sym (other_act c.args.act.now (λ conn why e. c.in_default.not-Closed conn why e) (λ client e. c.in_default.not-WillDropped client e))
