use Rattle.std.proofs.Common.{sym}
use Rattle.mq_durable.proofs.Reports.{other_close}
use Rattle.mq_durable.proofs.report.is_for_memory.Goals as goal

pub returns-in_default : goal.returns-in_default
returns-in_default c = sym (other_close c.args.why (λ reason e. c.in_default.not-Own reason e))
