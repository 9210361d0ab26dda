use Rattle.std.proofs.Common.{◌∙◌, ap}
use Rattle.mq_tables.proofs.RetainedEntries.{messages_of, removed, removed_named}
use Rattle.mq_tables.proofs.retained.take_away.Goals as goal

pub returns-clause-kept : goal.returns-clause-kept
returns-clause-kept c = record {
  named = rw c.shift_remove.ensures.entries (removed_named c.args.name.now c.args.by_name.now.entries c.requires.named);
  once = c.shift_remove.ensures.unique;
}

pub returns-clause-messages : goal.returns-clause-messages
returns-clause-messages c = ap messages_of c.shift_remove.ensures.entries ∙ removed c.args.name.now c.args.by_name.now.entries c.requires.named c.requires.once
