use Rattle.std.proofs.Common.{sym}
use Rattle.mq_durable.proofs.Entries.{entry_is, found}
use Rattle.mq_durable.proofs.progress.events_in.Goals as goal

pub returns-in-Ok-clause-ok : goal.returns-in-Ok-clause-ok
returns-in-Ok-clause-ok c = sym (found c.record_laws.ensures c.in-Ok.events.items c.args.entry.now c.in-Ok.ensures.entry)

pub returns-in-Ok-clause-readable : goal.returns-in-Ok-clause-readable
returns-in-Ok-clause-readable c = entry_is c.record_laws.ensures c.in-Ok.events.items c.args.entry.now c.in-Ok.ensures.entry
