-- The client identifier that the broker assigns to a client without one (3.1.3.1).
use Rattle.std.specs.Prelude.{◌≡◌, ℕ, ◌^◌, ◌<◌, true, List, [], length, None, is_some}
use Rattle.mq_packet.specs.declared.connect.Connect.{Connect}
use Rattle.mq_route.specs.Hub.{HubSession, key_of}
use Rattle.mq_route.specs.Welcome.{made_up, client_of}

-- The name is `auto-` followed by the least number such that no session has the name.
pub record IsLeastFree (name : List ℕ) (sessions : List HubSession) : Type 0 where
  pub number : ℕ
  pub is : name ≡ made_up number
  pub free : key_of name sessions ≡ None
  pub least : (smaller : ℕ) → smaller < number → is_some (key_of (made_up smaller) sessions) ≡ true

pub record NameLaws : Type 0 where
  -- a CONNECT without a client identifier gets the least free name
  pub assigned : (connect : Connect) (sessions : List HubSession) → length sessions < 2 ^ 64 → connect.client_id ≡ []
      → IsLeastFree (client_of connect sessions) sessions
