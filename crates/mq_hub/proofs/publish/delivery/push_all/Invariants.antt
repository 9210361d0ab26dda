use Rattle.std.proofs.Common.{◌≡◌, ◌+◌, ◌≤◌, ◌++◌, length}
use Rattle.mq_hub.proofs.publish.delivery.push_all.Given as goal

abbrev pub invariant-loop-act : goal.invariant-loop-act
invariant-loop-act l = record {
  acts : l.log.acts ++ l.act-iterator.rest.items ≡ l.initial.log.acts ++ l.fn.acts.items;
  room : length l.act-iterator.rest.items ≤ l.log.room;
  left : l.initial.log.room + length l.act-iterator.rest.items ≤ l.log.room + length l.fn.acts.items;
}
