-- Exit statuses. Only proofs cite these definitions.
use Rattle.std.specs.Prelude.{ℕ}
use Rattle.mq_pubsub_programs.specs.declared.fault.Fault.{Fault}
use Rattle.mq_pubsub_programs.specs.declared.fault.Fault.TheVariants as faults

-- the status of a command that stopped before its run
abbrev pub fault_status : Fault → ℕ
fault_status (faults.Said sentence) = 1
fault_status faults.Memory = 3
