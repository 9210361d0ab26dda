use Rattle.std.proofs.Common.{sym}
use Rattle.mq_hub.proofs.ClientLogs.{unnoted}
use Rattle.mq_hub.proofs.accounts.note.Goals as goal

pub returns-in_default : goal.returns-in_default
returns-in_default c = sym (unnoted c.args.act.now (λ p m e. c.in_default.not-Took p m e) (λ p m e. c.in_default.not-Placed p m e) (λ p m e. c.in_default.not-Missed p m e) 0 c.args.accounts.now)
