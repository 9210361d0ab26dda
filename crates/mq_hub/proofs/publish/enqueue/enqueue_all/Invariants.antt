use Rattle.std.proofs.Common.{◌≡◌}
use Rattle.mq_hub.specs.Inside.Placement.{AreApart, AreReady, placed_all}
use Rattle.mq_hub.proofs.publish.enqueue.enqueue_all.Given as goal

abbrev pub invariant-loop-key : goal.invariant-loop-key
invariant-loop-key l = record {
  apart : AreApart l.key-iterator.rest.items;
  ready : AreReady 0 l.sessions.list l.key-iterator.rest.items;
  list : placed_all l.key-iterator.rest.items l.sessions.list ≡ placed_all l.fn.copies.items l.initial.sessions.list;
  room : l.sessions.room ≡ l.initial.sessions.room;
}
