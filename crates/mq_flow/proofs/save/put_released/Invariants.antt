use Rattle.std.proofs.Common.{◌≡◌, ◌++◌, length, take}
use Rattle.std.specs.List.{flat_map}
use Rattle.mq_flow.specs.Held.{releases}
use Rattle.mq_wire.specs.Number.{number}
use Rattle.mq_flow.specs.Saved.{saved_ids}
use Rattle.mq_flow.proofs.save.put_released.Given as goal

abbrev pub invariant-loop-id : goal.invariant-loop-id
invariant-loop-id l = record {
  rest : l.out.items ++ flat_map number l.id-iterator ≡ l.fn.out.items ++ saved_ids (releases l.table.pairs);
  kept : take (length l.fn.out.items) l.out.items ≡ l.fn.out.items;
}
