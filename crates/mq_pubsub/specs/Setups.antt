-- Clients that are made from a configuration.
use Rattle.std.specs.Prelude.{◌≡◌, ℕ, List, None}
use Rattle.mq_decode.specs.Limits.{strict}
use Rattle.mq_flow.specs.declared.saved.Saved.{Saved}
use Rattle.mq_flow.specs.Saved.{IsSession}
use Rattle.mq_flow.specs.SavedTwo.{IsSavedAs}
use Rattle.mq_end.specs.declared.config.ClientConfig.{ClientConfig}
use Rattle.mq_end.specs.End.{resumed}
use Rattle.mq_end.specs.Publishing.{ClientState}
use Rattle.mq_end.specs.Resuming.{FitsWithin, NamesAnother}
use Rattle.mq_pubsub.specs.declared.setup.Setup.{Setup}

-- the greatest remaining length of a packet (2.2.3)
abbrev pub greatest_length : ℕ
greatest_length = 268435455

-- the configuration of a client: no window, and 100 packet identifiers for a new session
abbrev pub config_of : Setup → ClientConfig
config_of setup = record {
  id = setup.id;
  keep_alive = setup.keep_alive;
  will = setup.will;
  login = setup.login;
  limits = strict greatest_length;
  capacity = 100;
  window = None;
}

-- a client with the session that these bytes are the saved form of (4.1)
pub record GoesOn (setup : Setup) (bytes : List ℕ) (client : ClientState) : Type 0 where
  pub saved : Saved
  pub form : IsSavedAs saved bytes
  pub session : IsSession saved.session
  pub config : client.config ≡ config_of setup
  pub end : client.link.end ≡
      resumed None saved.established saved.session.sender.book saved.session.receiver saved.session.sender.last
  pub capacity : client.link.capacity ≡ saved.session.sender.capacity

-- These bytes are the saved form of a session that a client of this configuration can continue
-- with.
pub record CanGoOn (setup : Setup) (bytes : List ℕ) (saved : Saved) : Type 0 where
  pub session : IsSession saved.session
  pub form : IsSavedAs saved bytes
  pub own : NamesAnother saved.client setup.id → ⊥
  pub fits : FitsWithin greatest_length saved.session
