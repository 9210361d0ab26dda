use Rattle.std.proofs.Common.{◌≡◌, ◌-◌, ◌≤◌}
use Rattle.mq_flow.specs.Loading.{received_at}
use Rattle.mq_flow.proofs.load.received.Given as goal

abbrev pub invariant-loop : goal.invariant-loop
invariant-loop l = record {
  told : received_at (l.count - l.counter) l.last l.receiver l.rest ≡ received_at l.count 0 l.fn.receiver l.bytes;
  within : l.counter ≤ l.count;
}
