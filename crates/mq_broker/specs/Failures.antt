-- The failures of a broker with a journal.
use Rattle.mq_loop.specs.declared.broker.CommitFailure.{CommitFailure}
use Rattle.mq_loop.specs.declared.broker.CommitFailure.TheVariants as failures
use Rattle.mq_broker.specs.declared.end.BrokerEnd.{BrokerEnd}
use Rattle.mq_broker.specs.declared.end.BrokerEnd.TheVariants as ends

-- the end of a broker whose commit failed
abbrev pub end_of_commit : CommitFailure → BrokerEnd
end_of_commit failures.Memory = ends.Memory
end_of_commit failures.Storage = ends.Journal
end_of_commit failures.Full = ends.Journal
