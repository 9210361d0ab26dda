use Rattle.std.proofs.Common.{◌+◌, string_bytes, subst}
use Rattle.mq_store.specs.declared.data_folder.DataFolder.{DataFolder}
use Rattle.mq_store.specs.Continued.{HasNext, next_snapshot}
use Rattle.mq_store.proofs.Continuing.{continued_from}
use Rattle.mq_store.proofs.data_folder.DataFolder.begin.Goals as goal

pub returns-clause-saved : goal.returns-clause-saved
returns-clause-saved g c =
    let old : DataFolder = c.args.self.now in
    let new : DataFolder = c.next_file.new.self in
    continued_from (string_bytes old.path) (next_snapshot old c.args.hub.now) old.nth (old.nth + 1) old.folder c.remove_earlier.new.self.folder new.folder
    (subst (λ (d : DataFolder). HasNext d c.args.hub.now new) c.remove_earlier.ensures c.in_ok-file.ensures.saved)
