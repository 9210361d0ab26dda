-- The options of `broker`.
use Rattle.std.specs.Prelude.{◌≡◌, ◌*◌, ℕ, Option, option_map}
use Rattle.mq_broker.specs.declared.options.BrokerOptions.{BrokerOptions}
use Rattle.mq_cli.specs.declared.broker.Broker.{Broker}
use Rattle.mq_cli.specs.declared.broker.OnFull.{OnFull}
use Rattle.mq_cli.specs.declared.broker.OnFull.TheVariants as choices
use Rattle.mq_route.specs.declared.config.WhenFull.{WhenFull}
use Rattle.mq_route.specs.declared.config.WhenFull.TheVariants as treatments
use Rattle.mq_broker.specs.End.{open_status}
use Rattle.mq_programs.specs.declared.broker.StartError.{StartError}
use Rattle.mq_programs.specs.declared.broker.StartError.TheVariants as errors

abbrev pub when_full_of : OnFull → WhenFull
when_full_of choices.Drop = treatments.DropCopy
when_full_of choices.Close = treatments.ClosePublisher

-- the milliseconds of seconds
abbrev pub milliseconds : Option ℕ → Option ℕ
milliseconds seconds = option_map (λ count. count * 1000) seconds

-- options with the limits, the times and the treatment of the arguments
pub record AreOptionsOf (words : Broker) (options : BrokerOptions) : Type 0 where
  pub connections : options.max_connections ≡ words.max_connections
  pub sessions : options.max_sessions ≡ words.max_sessions
  pub packet : options.max_packet ≡ words.max_packet
  pub capacity : options.capacity ≡ words.capacity
  pub stored : options.max_stored ≡ words.max_stored
  pub waiting : options.max_waiting ≡ words.max_waiting
  pub matches : options.max_matches ≡ words.max_matches
  pub session_expiry : options.session_expiry ≡ milliseconds words.session_expiry
  pub when_full : options.when_full ≡ when_full_of words.when_full
  pub connect_within : options.connect_within ≡ milliseconds words.connect_within

-- 3 if an allocation failed, that of the folder if it can't be used, otherwise 2
abbrev pub start_status : StartError → ℕ
start_status errors.Memory = 3
start_status (errors.Address text) = 2
start_status (errors.Unread name) = 2
start_status (errors.Passwords name error) = 2
start_status (errors.Log name) = 2
start_status (errors.Folder path error) = open_status error
