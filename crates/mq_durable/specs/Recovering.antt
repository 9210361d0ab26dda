-- The broker that is recovered from a journal.
use Rattle.std.specs.Prelude.{◌≡◌, ℕ, Bool, true, false, max, List, [], ◌∷◌}
use Rattle.std.specs.List.{AllByRecursion, list_any}
use Rattle.mq_route.specs.declared.conn.Conn.{Conn}
use Rattle.mq_route.specs.declared.event.HubEvent.{HubEvent}
use Rattle.mq_route.specs.declared.event.HubEvent.TheVariants.{Opened, Bytes, Ended, Tick, Collect}
use Rattle.mq_route.specs.Hub.{HubState, knows}
use Rattle.mq_durable.specs.declared.progress.Progress.{Progress}
use Rattle.mq_durable.specs.Replaying.{Replays}
use Rattle.mq_route.specs.Routed.{same_conn}

-- the connection is among these
abbrev pub is_among : Conn → List Conn → Bool
is_among conn others = list_any (λ other. same_conn other conn) others

-- each connection that the broker knows is among these
abbrev pub AreKnownAmong : List Conn → HubState → Type 0
AreKnownAmong conns hub = (conn : Conn) → knows conn hub.connections ≡ true → is_among conn conns ≡ true

-- the event is the end of a connection
abbrev pub is_end : HubEvent → Bool
is_end (Ended conn) = true
is_end (Opened conn) = false
is_end (Bytes conn piece) = false
is_end (Tick now) = false
is_end (Collect conn) = false

-- each event is the end of a connection
abbrev pub AreEnds : List HubEvent → Type 0
AreEnds events = AllByRecursion (λ event. is_end event ≡ true) events

-- the later one of a time and the time that an event reports
abbrev pub later : ℕ → HubEvent → ℕ
later time (Tick now) = max time now
later time (Opened conn) = time
later time (Bytes conn piece) = time
later time (Ended conn) = time
later time (Collect conn) = time

-- the latest of a time and the times that events report
abbrev pub latest : ℕ → List HubEvent → ℕ
latest time [] = time
latest time (event ∷ events) = latest (later time event) events

-- the connections of the broker are among those that are listed
abbrev pub IsRecovering : Progress → Type 0
IsRecovering progress = AreKnownAmong progress.opened.items progress.hub

-- Events led a broker on.
pub record Continues (old : Progress) (events : List HubEvent) (new : Progress) : Type 0 where
  pub replays : Replays old.hub events new.hub
  pub recovering : IsRecovering old → IsRecovering new

-- Ends of connections led from one broker to another.
pub record HasEnded (old new : HubState) : Type 0 where
  pub ends : List HubEvent
  pub are_ends : AreEnds ends
  pub replays : Replays old ends new
