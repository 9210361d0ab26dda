use Rattle.std.proofs.Common.{◌*◌}
use Rattle.mq_book.specs.Workers.{Worked}
use Rattle.mq_serve.proofs.audited_connections.serve_connections_audited.Given as goal

abbrev pub invariant-loop-nth : goal.invariant-loop-nth
invariant-loop-nth g l = Worked (2 * l.nth) l.fn.worker l.worker
