use Rattle.std.proofs.Common.{◌≡◌}
use Rattle.mq_route.specs.Hub.{for_key}
use Rattle.mq_tables.specs.Publishing.{IsReadyAt}
use Rattle.mq_hub.specs.Inside.Placement.{placed_all}
use Rattle.mq_hub.proofs.publish.enqueue.enqueue_for.Given as goal

abbrev pub invariant-loop-message : goal.invariant-loop-message
invariant-loop-message l = record {
  ready : IsReadyAt l.key l.message-iterator.rest.items 0 l.sessions.list;
  list : placed_all (for_key l.key l.message-iterator.rest.items) l.sessions.list ≡ placed_all (for_key l.key l.fn.messages.items) l.initial.sessions.list;
  room : l.sessions.room ≡ l.initial.sessions.room;
}
