use Rattle.std.proofs.Common.{◌≡◌, ◌+◌, ◌-◌, ◌≤◌, length}
use Rattle.mq_flow.specs.Sender.{uses}
use Rattle.mq_flow.specs.Loading.{entries_at}
use Rattle.mq_flow.proofs.load.entries.Given as goal

abbrev pub invariant-loop : goal.invariant-loop
invariant-loop l = record {
  told : entries_at 268435455 (l.count - l.counter) l.sender.book l.rest ≡ entries_at 268435455 l.count l.fn.sender.book l.bytes;
  used : length (uses l.sender.book) ≡ length (uses l.fn.sender.book) + l.counter;
  within : l.counter ≤ l.count;
  capacity : l.sender.capacity ≡ l.fn.sender.capacity;
  reserved : l.sender.room ≤ l.fn.sender.room;
}
