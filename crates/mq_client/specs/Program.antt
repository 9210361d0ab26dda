-- The client of the programs, and the session that it continues with.
use Rattle.std.specs.Prelude.{◌≡◌, None, List, ℕ}
use Rattle.mq_decode.specs.Limits.{strict}
use Rattle.mq_flow.specs.declared.saved.Saved.{Saved}
use Rattle.mq_flow.specs.Saved.{IsSession}
use Rattle.mq_flow.specs.SavedTwo.{IsSavedAs}
use Rattle.mq_end.specs.declared.config.ClientConfig.{ClientConfig}
use Rattle.mq_end.specs.End.{blank_end, resumed}
use Rattle.mq_end.specs.Publishing.{ClientState}
use Rattle.mq_end.specs.Resuming.{FitsWithin, NamesAnother}

-- the maximum remaining length of packets that are sent or received (2.2.3)
abbrev pub most_packet : ℕ
most_packet = 1048576

-- the configuration of a client with this identifier (3.1.3.1): no will, no user name, no window
abbrev pub program_config : List ℕ → ClientConfig
program_config id =
    record { id = id; keep_alive = 60; will = None; login = None; limits = strict most_packet; capacity = 100; window = None }

-- a client without a session
pub record IsNewClient (id : List ℕ) (client : ClientState) : Type 0 where
  pub config : client.config ≡ program_config id
  pub end : client.link.end ≡ blank_end None
  pub capacity : client.link.capacity ≡ 100

-- a client with the session that these bytes are the saved form of (4.1)
pub record GoesOn (id bytes : List ℕ) (client : ClientState) : Type 0 where
  pub saved : Saved
  pub form : IsSavedAs saved bytes
  pub session : IsSession saved.session
  pub config : client.config ≡ program_config id
  pub end : client.link.end ≡
      resumed None saved.established saved.session.sender.book saved.session.receiver saved.session.sender.last
  pub capacity : client.link.capacity ≡ saved.session.sender.capacity

-- These bytes are the saved form of a session that a client with this identifier can continue with.
pub record CanGoOn (id bytes : List ℕ) (saved : Saved) : Type 0 where
  pub session : IsSession saved.session
  pub form : IsSavedAs saved bytes
  pub own : NamesAnother saved.client id → ⊥
  pub fits : FitsWithin most_packet saved.session
