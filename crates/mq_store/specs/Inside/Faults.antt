-- Why a store was not opened, by the error of a call. Only proofs cite these definitions.
use Rattle.mq_snapshot.specs.declared.fault.SnapshotFault.{SnapshotFault}
use Rattle.mq_snapshot.specs.declared.fault.SnapshotFault.TheVariants as snapshots
use Rattle.mq_store.specs.declared.fault.StoreError.{StoreError}
use Rattle.mq_store.specs.declared.fault.StoreError.TheVariants.{Capacity, TooLarge, Memory}

-- a configuration does not allow a broker that was restored
abbrev pub of_configuration : SnapshotFault → StoreError
of_configuration snapshots.Version = Capacity
of_configuration snapshots.Malformed = Capacity
of_configuration snapshots.TooLarge = TooLarge
of_configuration snapshots.Memory = Memory
