-- A broker with a journal, or without one.
use Rattle.std.specs.Prelude.{◌≡◌, ◌≢◌, ◌⊎◌, ◌↔◌, ℕ, Option, Some, None}
use Rattle.mq_cli.specs.declared.broker.Broker.{Broker}
use Rattle.mq_cli.specs.declared.broker.DataFolder.{DataFolder}
use Rattle.mq_broker.specs.Configuration.{configuration}
use Rattle.mq_broker.specs.End.{IsPacketLimit, end_status}
use Rattle.mq_broker.specs.declared.end.BrokerEnd.{BrokerEnd}
use Rattle.mq_broker.specs.declared.end.BrokerEnd.TheVariants as ends
use Rattle.mq_broker.specs.declared.options.BrokerOptions.{BrokerOptions}
use Rattle.mq_store.specs.Restoring.{IsFound}
use Rattle.mq_programs.specs.Options.{AreOptionsOf, start_status}
use Rattle.mq_programs.specs.declared.broker.StartError.{StartError}
use Rattle.mq_programs.specs.declared.kept.Ready.{Ready}
use Rattle.mq_programs.specs.declared.kept.Ready.TheVariants.{Kept, Plain}

-- A broker with these options is ready. With a folder it was recovered from there.
abbrev pub IsReady : Option DataFolder → BrokerOptions → Ready → Type 0
IsReady None options (Plain own) = own ≡ options
IsReady None options (Kept broker) = ⊥
IsReady (Some folder) options (Plain own) = ⊥
IsReady (Some folder) options (Kept broker) =
    IsFound (configuration options) broker.hub broker.events × IsPacketLimit options.max_packet

-- Why a broker may end. The maximum remaining length of a recovered one was allowed.
abbrev pub MayEnd : Ready → BrokerEnd → Type 0
MayEnd (Plain options) end = (end ≡ ends.PacketLimit) ↔ ¬ (IsPacketLimit options.max_packet)
MayEnd (Kept broker) end = end ≢ ends.PacketLimit

-- a broker with the options of the arguments was ready, and ran to this end
abbrev pub IsEnded : Broker → BrokerEnd → Type 0
IsEnded words end =
    (options : BrokerOptions) × (broker : Ready) × AreOptionsOf words options
    × IsReady words.journal options broker × MayEnd broker end

-- the exit status: that of the error that prevented the start, or of the end
abbrev pub IsBrokerStatus : Broker → ℕ → Type 0
IsBrokerStatus words status =
    ((error : StartError) × (status ≡ start_status error))
    ⊎ ((end : BrokerEnd) × IsEnded words end × (status ≡ end_status end))
