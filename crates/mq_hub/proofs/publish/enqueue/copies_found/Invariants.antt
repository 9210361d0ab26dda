use Rattle.std.proofs.Common.{◌≡◌, ◌++◌}
use Rattle.mq_hub.specs.Inside.Placement.{copies_found}
use Rattle.mq_hub.proofs.publish.enqueue.copies_found.Given as goal

abbrev pub invariant-loop-key : goal.invariant-loop-key
invariant-loop-key l = l.copies.items ++ copies_found l.connections.connections l.message l.key-iterator.rest.items ≡ copies_found l.connections.connections l.message l.fn.found.items
