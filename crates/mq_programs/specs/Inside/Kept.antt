-- A broker with a journal, or without one. Only proofs cite these definitions.
use Rattle.mq_cli.specs.declared.broker.Durability.{Durability}
use Rattle.mq_cli.specs.declared.broker.Durability.TheVariants as failures
use Rattle.mq_file.specs.declared.journal_file.Keep.{Keep}
use Rattle.mq_file.specs.declared.journal_file.Keep.TheVariants as keeps

abbrev pub keep_of : Durability → Keep
keep_of failures.System = keeps.System
keep_of failures.Disk = keeps.Disk
