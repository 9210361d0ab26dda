-- The end of a session processes a CONNECT (3.1.4, 3.2).
use Rattle.std.specs.Prelude.{ℕ, ◌==◌, Bool, List, ◌≡◌, [], ◌∷◌, Option, Some, None, ◌<◌, ◌^◌}
use Rattle.std.specs.List.{list_any}
use Rattle.mq_packet.specs.declared.connect.Connect.{Connect}
use Rattle.mq_packet.specs.declared.connect.Will.{Will}
use Rattle.mq_packet.specs.declared.message.Message.{Message}
use Rattle.mq_end.specs.State.{EndState}
use Rattle.mq_route.specs.Hub.{HubSession, HubState, new_end, up_on}
use Rattle.mq_route.specs.Copies.{will_message}
use Rattle.mq_tables.specs.declared.sessions.session.BrokerSession.{BrokerSession}
use Rattle.mq_tables.specs.Tables.{HubTables}
use Rattle.mq_tables.specs.Connecting.{connected_end, HasConnectRoomAt}

-- there is a session of this key
abbrev pub has_session : ℕ → List HubSession → Bool
has_session key sessions = list_any (λ session. session.key == key) sessions

-- a session of this client with the next key, whose new end has processed this CONNECT (3.1.2.4)
pub record IsNewSession (connect : Connect) (client : List ℕ) (hub : HubState) (session : BrokerSession) : Type 0 where
  pub end : EndState
  pub fresh : end.end ≡ new_end hub.config
  pub capacity : end.capacity ≡ hub.config.capacity
  pub limit : end.limit ≡ hub.config.limits
  pub after : session ≡ record { client = client; key = hub.next_key; end = connected_end connect hub.clock end; left_at = hub.clock }

-- the message of a will, if any
abbrev pub will_messages : Option Will → List Message
will_messages None = []
will_messages (Some will) = will_message will ∷ []

-- The session of a client without connection, which had room for a CONNECT and these messages,
-- still has room for the CONNECT.
pub record KeepsConnectRoom (messages : List Message) (old new : HubTables) : Type 0 where
  pub connect_end : (connect : Connect) (key : ℕ) → old.connections.limits.packets.most < 2 ^ 28 → up_on key old.connections.connections ≡ None
      → HasConnectRoomAt connect key messages 0 old.sessions.list
      → HasConnectRoomAt connect key [] 0 new.sessions.list
