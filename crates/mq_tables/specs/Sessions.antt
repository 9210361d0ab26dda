-- The table of sessions (3.1.2.4).
use Rattle.std.specs.Prelude.{ℕ, List, map, ◌==◌, if◌then◌else◌, [], ◌∷◌, Option, Some, None, not, filter, ◌<◌, ◌≡◌}
use Rattle.std.specs.List.{AllByRecursion}
use Rattle.mq_end.specs.State.{EndState}
use Rattle.mq_route.specs.Hub.{HubSession, key_of}
use Rattle.mq_tables.specs.declared.sessions.session.BrokerSession.{BrokerSession}

-- The sessions by ascending key, and for how many more there is room.
pub record SessionTable : Type 0 where
  pub list : List BrokerSession
  pub room : ℕ

-- a session as the broker's definition sees it
abbrev pub session_of : BrokerSession → HubSession
session_of session = record { client = session.client; key = session.key; end = session.end.end; left = session.left_at }

abbrev pub sessions_of : List BrokerSession → List HubSession
sessions_of sessions = map session_of sessions

-- the session of a key
abbrev pub session_at : ℕ → List BrokerSession → Option BrokerSession
session_at key [] = None
session_at key (session ∷ rest) = if session.key == key then Some session else session_at key rest

-- the same session with another end, if it has this key
abbrev pub served_by : ℕ → EndState → BrokerSession → BrokerSession
served_by key state session = if session.key == key then record session { end = state } else session

-- the sessions, that of a key with another end
abbrev pub with_server : ℕ → EndState → List BrokerSession → List BrokerSession
with_server key state sessions = map (served_by key state) sessions

-- the same session; if it has this key, its client last disconnected at this time
abbrev pub marking : ℕ → ℕ → BrokerSession → BrokerSession
marking key now session = if session.key == key then record session { left_at = now } else session

-- the sessions, that of a key with this time as that of its client's last disconnect
abbrev pub marked_at : ℕ → ℕ → List BrokerSession → List BrokerSession
marked_at key now sessions = map (marking key now) sessions

-- the sessions without that of a key
abbrev pub without_key : ℕ → List BrokerSession → List BrokerSession
without_key key sessions = filter (λ session. not (session.key == key)) sessions

-- all keys are below this one
abbrev pub AreBelow : ℕ → List BrokerSession → Type 0
AreBelow key = AllByRecursion (λ session. session.key < key)

-- keys ascend
abbrev pub AreAscending : List BrokerSession → Type 0
AreAscending [] = Unit {0}
AreAscending (session ∷ rest) = AllByRecursion (λ other. session.key < other.key) rest × AreAscending rest

-- client identifiers are distinct
abbrev pub AreDistinct : List BrokerSession → Type 0
AreDistinct [] = Unit {0}
AreDistinct (session ∷ rest) = (key_of session.client (sessions_of rest) ≡ None) × AreDistinct rest

-- The invariant of the table: keys ascend, client identifiers are distinct, and `find` returns the
-- key of each.
pub record AreSessions (sessions : List BrokerSession) (find : List ℕ → Option ℕ) : Type 0 where
  pub ascending : AreAscending sessions
  pub distinct : AreDistinct sessions
  pub named : (client : List ℕ) → find client ≡ key_of client (sessions_of sessions)
