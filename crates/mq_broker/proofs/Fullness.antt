-- A journal that was begun is not full.
use Rattle.std.proofs.Common.{◌≡◌, ℕ, List, [], ap, length, arith}
use Rattle.mq_log.specs.Blocks.{at_rest}
use Rattle.mq_durable.specs.State.{DurableState}
use Rattle.mq_file.specs.declared.journal_file.JournalFile.{JournalFile}
use Rattle.mq_file.specs.History.{seen_after}
use Rattle.mq_store.specs.declared.data_folder.DataFolder.{DataFolder}
use Rattle.mq_store.specs.Continued.{IsFull}

pub just_begun : (folder : DataFolder) (durable : DurableState JournalFile) → seen_after durable.disk ≡ at_rest [] → IsFull folder durable → ⊥
just_begun folder durable begun full =
    let size : length (seen_after durable.disk) ≡ 1 = ap (λ (bytes : List ℕ). length bytes) begun in
    omega (arith, size, full.0)
