use Rattle.std.proofs.Common.{ℕ, List, subst}
use Rattle.mq_file.specs.Named.{Writes}
use Rattle.mq_file.proofs.Folders.{file_written, known_after}
use Rattle.mq_file.proofs.folder.FolderFilesNamedFiles.write_new.Goals as goal

pub returns-in-Ok-clause-ok : goal.returns-in-Ok-clause-ok
returns-in-Ok-clause-ok g c =
    subst (λ (n : List ℕ). Writes n c.args.bytes.now (known_after c.args.self.now.history.calls) (known_after c.note.new.self.calls)) c.as_bytes.ensures.value
    (file_written c.as_bytes.result.now c.args.bytes.now c.args.self.now.history.calls c.note.new.self.calls c.note.ensures)
