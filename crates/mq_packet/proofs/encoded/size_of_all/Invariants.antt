use Rattle.std.proofs.Common.{◌≡◌, ◌<◌, ◌^◌, length, take}
use Rattle.std.specs.List.{flat_map}
use Rattle.mq_packet.proofs.encoded.size_of_all.Given as goal

abbrev pub invariant-loop-item : goal.invariant-loop-item
invariant-loop-item g l = record {
  size : l.size ≡ length (flat_map g.T.ListItem.encoding (take l.item-index l.items));
  small : l.size < 2 ^ 28;
}
