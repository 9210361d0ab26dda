use Rattle.std.proofs.Common.{◌≡◌, ◌+◌, ◌-◌, ◌<◌, ◌≤◌, length}
use Rattle.mq_decode.specs.Lists.{items_at}
use Rattle.mq_decode.proofs.Loops.{with_front}
use Rattle.mq_decode.proofs.lists.list.Given as goal

abbrev pub invariant-loop-rest : goal.invariant-loop-rest
invariant-loop-rest g l = record {
  room : length l.items.items + length l.rest ≤ length l.bytes;
  item : 0 < length l.items.items + length l.rest;
  told : with_front l.items.items (items_at g.T.Item.item_at (length l.bytes - length l.items.items) l.rest) ≡ items_at g.T.Item.item_at (length l.bytes) l.bytes;
}

abbrev pub decreases-loop-rest : goal.decreases-loop-rest
decreases-loop-rest g l = length l.rest
