-- The failures of a broker with a journal. Only proofs cite these definitions.
use Rattle.mq_loop.specs.declared.broker.CommitFailure.{CommitFailure}
use Rattle.mq_loop.specs.declared.broker.CommitFailure.TheVariants as failures
use Rattle.mq_store.specs.declared.fault.StoreError.{StoreError}
use Rattle.mq_store.specs.declared.fault.StoreError.TheVariants as faults

-- why a commit failed, if the next files of the folder were not begun
abbrev pub next_failure : StoreError → CommitFailure
next_failure faults.Memory = failures.Memory
next_failure faults.Full = failures.Full
next_failure _ = failures.Storage
