use Rattle.mq_hub.proofs.ClientLogs.{accounts_blank}
use Rattle.mq_hub.proofs.accounts.blank_accounts.Goals as goal

pub returns-clause-blank : goal.returns-clause-blank
returns-clause-blank c = accounts_blank 0 c.loop.accounts.items c.loop.invariant.blank
