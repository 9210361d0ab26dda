use Rattle.std.proofs.Common.{ℕ, List, string_bytes}
use Rattle.mq_store.specs.SnapshotFile.{saved_file}
use Rattle.mq_store.proofs.Continuing.{next_may}
use Rattle.mq_store.proofs.data_folder.DataFolder.next_file.Goals as goal

pub returns-in_err-file-clause-at_any_time : goal.returns-in_err-file-clause-at_any_time
returns-in_err-file-clause-at_any_time g c =
    let added = rw c.in-Some.is at c.checked_add.ensures in
    next_may (string_bytes c.args.self.now.path) (λ (n : ℕ) (config : List ℕ). saved_file n config c.args.hub.now) c.args.self.now.nth c.in-Some.nth
    c.args.self.now.config.items c.as_slice.result.now c.in_ok-bytes.bytes.items c.as_slice-2.result.now c.args.self.now.folder c.switch.new.self.folder
    added.1 c.as_slice.ensures.value c.in_ok-bytes.ensures c.as_slice-2.ensures.value c.switch.ensures.at_any_time

pub returns-clause-at_any_time : goal.returns-clause-at_any_time
returns-clause-at_any_time g c =
    let added = rw c.in-Some.is at c.checked_add.ensures in
    next_may (string_bytes c.args.self.now.path) (λ (n : ℕ) (config : List ℕ). saved_file n config c.args.hub.now) c.args.self.now.nth c.in-Some.nth
    c.args.self.now.config.items c.as_slice.result.now c.in_ok-bytes.bytes.items c.as_slice-2.result.now c.args.self.now.folder c.switch.new.self.folder
    added.1 c.as_slice.ensures.value c.in_ok-bytes.ensures c.as_slice-2.ensures.value c.switch.ensures.at_any_time
