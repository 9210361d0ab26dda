use Rattle.std.proofs.Common.{◌≡◌, ◌++◌, length, take}
use Rattle.std.specs.List.{flat_map}
use Rattle.mq_flow.specs.Held.{messages}
use Rattle.mq_wire.specs.Number.{number}
use Rattle.mq_flow.specs.Saved.{saved_entry}
use Rattle.mq_flow.specs.Inside.Saved.{HaveTopics}
use Rattle.mq_flow.proofs.save.put_entries.Given as goal

abbrev pub invariant-loop-entry : goal.invariant-loop-entry
invariant-loop-entry l = record {
  rest : l.out.items ++ flat_map saved_entry l.entry-iterator ≡ l.fn.out.items ++ (number (length (messages l.table.pairs)) ++ flat_map saved_entry (messages l.table.pairs));
  topics : HaveTopics l.entry-iterator → HaveTopics (messages l.table.pairs);
  kept : take (length l.fn.out.items) l.out.items ≡ l.fn.out.items;
}
