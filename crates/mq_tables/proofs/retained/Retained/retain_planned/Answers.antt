use Rattle.std.proofs.Common.{subst}
use Rattle.mq_tables.specs.Retained.{IsKeptOf}
use Rattle.mq_tables.proofs.RetainedEntries.{kept_nothing}
use Rattle.mq_tables.proofs.retained.Retained.retain_planned.Goals as goal

pub returns-in-None-clause-messages : goal.returns-in-None-clause-messages
returns-in-None-clause-messages c = λ m is. kept_nothing m c.args.self.now.messages (subst (IsKeptOf m) c.in-None.is is)
