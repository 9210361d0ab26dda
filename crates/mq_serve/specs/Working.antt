-- The work of a worker.
use Rattle.std.specs.Prelude.{◌≡◌, ◌≤◌, ◌+◌, ◌*◌, ℕ, List, [], length, IfOk, Result}
use Rattle.std.specs.List.{AllByRecursion}
use Rattle.mq_book.specs.Pages.{WorkerView}
use Rattle.mq_book.specs.declared.entry.Receipt.{Receipt}
use Rattle.mq_book.specs.declared.work_end.WorkEnd.{WorkEnd}
use Rattle.mq_serve.specs.declared.server.Retention.{Retention}
use Rattle.mq_serve.specs.declared.server.Retention.TheVariants.{Passing, Kept}

-- A worker counted its steps, and made at least two for each connection that it served.
abbrev pub HasWorked : WorkerView → WorkerView → Result ℕ WorkEnd → Type 0
HasWorked before after end =
    (after.worker ≡ before.worker) × (before.count ≤ after.count)
    × IfOk end (λ served. before.count + 2 * served ≤ after.count)

-- A worker kept a receipt for each of its steps, or none if no receipts are kept.
abbrev pub AreReceipts : Retention → WorkerView → WorkerView → List Receipt → Type 0
AreReceipts (Passing limit) before after receipts = receipts ≡ []
AreReceipts (Kept limit) before after receipts =
    (after.count ≡ before.count + length receipts)
    × AllByRecursion (λ receipt. receipt.worker ≡ before.worker) receipts
