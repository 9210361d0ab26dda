use Rattle.std.proofs.Common.{◌↔◌, length}
use Rattle.mq_book.specs.Receipts.{Stand}
use Rattle.mq_book.proofs.receipt_audit.audit.Given as goal

abbrev pub invariant-loop-rest : goal.invariant-loop-rest
invariant-loop-rest l = Stand l.first l.entries 0 l.fn.receipts ↔ Stand l.first l.entries l.from l.rest

abbrev pub decreases-loop-rest : goal.decreases-loop-rest
decreases-loop-rest l = length l.rest
