use Rattle.std.proofs.Common.{◌≡◌, ◌≤◌, ◌+◌, ◌*◌}
use Rattle.mq_book.proofs.worker.serve_connections.Given as goal

abbrev pub invariant-loop-nth : goal.invariant-loop-nth
invariant-loop-nth g l = (l.worker.worker ≡ l.fn.worker.worker) × (l.fn.worker.count + 2 * l.nth ≤ l.worker.count)
