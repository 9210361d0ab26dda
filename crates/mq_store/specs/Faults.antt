-- Why a store was not opened, by the error of a call.
use Rattle.mq_log.specs.declared.disk.DiskError.{DiskError}
use Rattle.mq_log.specs.declared.disk.DiskError.TheVariants as disks
use Rattle.mq_file.specs.declared.error.FolderError.{FolderError}
use Rattle.mq_file.specs.declared.error.FolderError.TheVariants as folders
use Rattle.mq_durable.specs.declared.fault.CommitError.{CommitError}
use Rattle.mq_durable.specs.declared.fault.CommitError.TheVariants as commits
use Rattle.mq_durable.specs.declared.fault.RecoverError.{RecoverError}
use Rattle.mq_durable.specs.declared.fault.RecoverError.TheVariants as recoveries
use Rattle.mq_snapshot.specs.declared.fault.SnapshotFault.{SnapshotFault}
use Rattle.mq_snapshot.specs.declared.fault.SnapshotFault.TheVariants as snapshots
use Rattle.mq_store.specs.declared.fault.StoreError.{StoreError}
use Rattle.mq_store.specs.declared.fault.StoreError.TheVariants.{InUse, Folder, Unreadable, Unwritten, Full, Snapshot, TooLarge, Damaged, Entry, Refused, Memory}

abbrev pub of_folder : FolderError → StoreError
of_folder folders.InUse = InUse
of_folder folders.Folder = Folder
of_folder folders.Unreadable = Unreadable
of_folder folders.Unwritten = Unwritten
of_folder folders.Full = Full
of_folder folders.Memory = Memory

abbrev pub of_recovery : RecoverError → StoreError
of_recovery (recoveries.Damaged tail) = Damaged
of_recovery (recoveries.Unreadable fault) = Entry
of_recovery (recoveries.Refused why) = Refused
of_recovery recoveries.Memory = Memory

abbrev pub of_disk : DiskError → StoreError
of_disk disks.Memory = Memory
of_disk disks.Failed = Unwritten
of_disk disks.Full = Unwritten

abbrev pub of_commit : CommitError → StoreError
of_commit commits.OutOfMemory = Memory
of_commit commits.Broken = Unwritten
of_commit (commits.Disk error) = of_disk error

-- a part of a snapshot is not readable
abbrev pub of_part : SnapshotFault → StoreError
of_part snapshots.Version = Snapshot
of_part snapshots.Malformed = Snapshot
of_part snapshots.TooLarge = Snapshot
of_part snapshots.Memory = Memory
