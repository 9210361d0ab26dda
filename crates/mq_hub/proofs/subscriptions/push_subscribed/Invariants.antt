use Rattle.std.proofs.Common.{◌≡◌, ◌+◌, ◌≤◌, ◌++◌, length}
use Rattle.mq_hub.specs.Inside.Subscriptions.{subscribed_acts}
use Rattle.mq_hub.proofs.subscriptions.push_subscribed.Given as goal

abbrev pub invariant-loop-request : goal.invariant-loop-request
invariant-loop-request l = record {
  acts : l.log.acts ++ subscribed_acts l.key l.request-iterator.rest.items ≡ l.initial.log.acts ++ subscribed_acts l.key l.fn.requests.items;
  enough : length l.request-iterator.rest.items ≤ l.log.room;
  room : l.initial.log.room + length l.request-iterator.rest.items ≤ l.log.room + length l.fn.requests.items;
}
