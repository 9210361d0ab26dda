-- Sessions of clients that are absent for too long (3.1.2.4).
use Rattle.std.specs.Prelude.{ℕ, Bool, not, ◌&&◌, List, Option, is_some, map, filter, ◌≡◌, false}
use Rattle.std.specs.List.{AllByRecursion}
use Rattle.mq_route.specs.Hub.{HubConnection, up_on}
use Rattle.mq_route.specs.Step.{has_passed}
use Rattle.mq_tables.specs.declared.sessions.session.BrokerSession.{BrokerSession}

-- the session's client is not connected, and disconnected longer ago than the limit
abbrev pub is_gone : Option ℕ → ℕ → List HubConnection → BrokerSession → Bool
is_gone expiry now connections session = not (is_some (up_on session.key connections)) && has_passed expiry session.left_at now

-- the keys of these sessions
abbrev pub gone_keys : Option ℕ → ℕ → List HubConnection → List BrokerSession → List ℕ
gone_keys expiry now connections sessions = map (λ session. session.key) (filter (is_gone expiry now connections) sessions)

-- no session is expired at this time
abbrev pub AreKept : Option ℕ → ℕ → List HubConnection → List BrokerSession → Type 0
AreKept expiry now connections = AllByRecursion (λ session. is_gone expiry now connections session ≡ false)
