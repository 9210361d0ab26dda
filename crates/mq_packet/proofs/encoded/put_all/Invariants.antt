use Rattle.std.proofs.Common.{◌≡◌, ◌≤◌, ◌++◌, take, vec_capacity}
use Rattle.std.specs.List.{flat_map, AllByRecursion}
use Rattle.mq_packet.proofs.encoded.put_all.Given as goal

abbrev pub invariant-loop-item : goal.invariant-loop-item
invariant-loop-item g l = record {
  items : l.out.items ≡ l.fn.out.items ++ flat_map g.T.ListItem.encoding (take l.item-index l.items);
  capacity : vec_capacity l.fn.out ≤ vec_capacity l.out;
  each : AllByRecursion g.T.ListItem.is_item (take l.item-index l.items);
}
