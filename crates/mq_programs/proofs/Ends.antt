-- The end of a broker, and its exit status.
use Rattle.std.proofs.Common.{◌≡◌, ℕ, Result, Ok, Err, IfOk, inl, inr}
use Rattle.mq_broker.specs.End.{end_status}
use Rattle.mq_broker.specs.declared.end.BrokerEnd.{BrokerEnd}
use Rattle.mq_broker.specs.declared.options.BrokerOptions.{BrokerOptions}
use Rattle.mq_cli.specs.declared.broker.Broker.{Broker}
use Rattle.mq_programs.specs.Kept.{IsBrokerStatus, IsEnded, IsReady, MayEnd}
use Rattle.mq_programs.specs.Options.{AreOptionsOf, start_status}
use Rattle.mq_programs.specs.declared.broker.StartError.{StartError}
use Rattle.mq_programs.specs.declared.kept.Ready.{Ready}

pub ended : {E : Type 0} (r : Result BrokerEnd E) (words : Broker) (options : BrokerOptions) (broker : Ready) → AreOptionsOf words options → IsReady words.journal options broker → IfOk r (MayEnd broker)
    → IfOk r (IsEnded words)
ended (Ok end) words options broker are ready may = (options, broker, are, ready, may)
ended (Err e) words options broker are ready may = tt

pub status_of_end : (words : Broker) (end : BrokerEnd) (status : ℕ) → IsEnded words end → status ≡ end_status end → IsBrokerStatus words status
status_of_end words end status is same = inr (end, is, same)

pub status_of_error : (words : Broker) (error : StartError) (status : ℕ) → status ≡ start_status error → IsBrokerStatus words status
status_of_error words error status same = inl (error, same)
