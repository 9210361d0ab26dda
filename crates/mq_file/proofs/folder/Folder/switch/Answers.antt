use Rattle.std.proofs.Common.{List, ap, subst, ◌∙◌}
use Rattle.mq_file.specs.declared.folder_record.FolderRecord.{FolderRecord}
use Rattle.mq_file.specs.FolderHistory.{FolderCall}
use Rattle.mq_file.specs.Named.{IsEitherPair, Throughout}
use Rattle.mq_file.proofs.Folders.{known_after}
use Rattle.mq_file.proofs.folder.Folder.switch.Goals as goal

pub returns-clause-at_any_time : goal.returns-clause-at_any_time
returns-clause-at_any_time g c =
    λ apart.
    subst (λ (calls : List FolderCall). Throughout (IsEitherPair c.args.path.now c.args.bytes.now c.args.first.now c.args.second.now) (known_after calls) (known_after c.switch-switched.new.files.history.calls))
    (ap (λ (r : FolderRecord). r.calls) c.replace-history.ensures.value ∙ c.self.view_is)
    (c.switch-switched.ensures.at_any_time apart)
