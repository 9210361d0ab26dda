-- The end of a broker.
use Rattle.std.specs.Prelude.{ℕ, ◌≤◌, ◌<◌, ◌^◌}
use Rattle.mq_broker.specs.declared.end.BrokerEnd.{BrokerEnd}
use Rattle.mq_broker.specs.declared.end.BrokerEnd.TheVariants as ends
use Rattle.mq_broker.specs.declared.open_error.OpenError.{OpenError}
use Rattle.mq_broker.specs.declared.open_error.OpenError.TheVariants as errors
use Rattle.mq_store.specs.declared.fault.StoreError.TheVariants as faults

-- a maximum remaining length that the standard allows, and of at least 64 bytes (2.2.3)
abbrev pub IsPacketLimit : ℕ → Type 0
IsPacketLimit bytes = (64 ≤ bytes) × (bytes < 2 ^ 28)

-- the exit status: 2 for an invalid option, 3 if an allocation failed, 4 if the output failed
abbrev pub end_status : BrokerEnd → ℕ
end_status ends.PacketLimit = 2
end_status ends.Memory = 3
end_status ends.Output = 4
end_status ends.AddressInUse = 1
end_status ends.AddressRefused = 1
end_status ends.Listener = 1
end_status ends.Journal = 1

-- the exit status of a broker that was not recovered
abbrev pub open_status : OpenError → ℕ
open_status errors.PacketLimit = 2
open_status (errors.Store faults.Memory) = 3
open_status (errors.Store faults.InUse) = 1
open_status (errors.Store faults.Folder) = 1
open_status (errors.Store faults.Unreadable) = 1
open_status (errors.Store faults.Unwritten) = 1
open_status (errors.Store faults.Full) = 1
open_status (errors.Store faults.Earlier) = 1
open_status (errors.Store faults.NoSnapshot) = 1
open_status (errors.Store faults.Version) = 1
open_status (errors.Store faults.Snapshot) = 1
open_status (errors.Store faults.TooLarge) = 1
open_status (errors.Store faults.Capacity) = 1
open_status (errors.Store faults.Gap) = 1
open_status (errors.Store faults.Damaged) = 1
open_status (errors.Store faults.Entry) = 1
open_status (errors.Store faults.Refused) = 1
open_status (errors.Store faults.TooLong) = 1
