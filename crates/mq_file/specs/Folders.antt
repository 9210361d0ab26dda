-- Errors of a folder, by those of the system.
use Rattle.std.specs.Prelude.{◌≡◌, ◌⊎◌}
use Rattle.mq_file.specs.declared.error.FolderError.{FolderError}
use Rattle.mq_file.specs.declared.error.FolderError.TheVariants.{Full, Unwritten}

-- why a call that writes failed
abbrev pub IsNotWritten : FolderError → Type 0
IsNotWritten why = (why ≡ Unwritten) ⊎ (why ≡ Full)
