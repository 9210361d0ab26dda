-- Errors of a folder, by those of the system. Only proofs cite these definitions.
use Rattle.std.specs.declared.fs.TryLockError.{TryLockError}
use Rattle.std.specs.declared.fs.TryLockError.TheVariants as locks
use Rattle.mq_file.specs.declared.error.FolderError.{FolderError}
use Rattle.mq_file.specs.declared.error.FolderError.TheVariants.{InUse, Folder}

-- why a lock was not taken: another process has it, or there is no folder
abbrev pub lock_error : TryLockError → FolderError
lock_error (locks.Error error) = Folder
lock_error locks.WouldBlock = InUse
