-- Runs that begin with a broker that had a run before, as after a restart (3.1.2.4).
use Rattle.std.specs.Prelude.{◌≡◌, ◌↔◌, ◌<◌, ℕ, false, true, List, [], Some}
use Rattle.std.specs.List.{AllByRecursion, list_any}
use Rattle.mq_route.specs.declared.conn.Conn.{Conn}
use Rattle.mq_route.specs.declared.config.HubConfig.{HubConfig}
use Rattle.mq_route.specs.declared.event.HubEvent.{HubEvent}
use Rattle.mq_route.specs.declared.reply.HubReply.{HubReply}
use Rattle.mq_route.specs.Hub.{HubState, is_for, new_hub, stage_of, up_on, waiting_on}
use Rattle.mq_route.specs.Laws.{places_on}
use Rattle.mq_route.specs.Routed.{Seen, routed_from, seen, settled}
use Rattle.mq_route.specs.Runs.{Episode, Follows, acts_of, is_on}
use Rattle.mq_route.specs.Step.{HubStep}

-- A broker without connections. The next key is above those of its sessions, and none of these ends
-- with a connection.
pub record MayBegin (hub : HubState) : Type 0 where
  pub none : hub.connections ≡ []
  pub keys : AllByRecursion (λ s. s.key < hub.next_key) hub.sessions
  pub lasting : AllByRecursion (λ s. s.end.clean ≡ false) hub.sessions

-- the view of a broker: its subscriptions, this client's connection, and the retained messages
abbrev pub view_of : ℕ → HubState → Seen
view_of client hub =
    record { rows = hub.rows; up = up_on client hub.connections; retained = hub.retained }

pub record BegunLaws : Type 0 where
  -- a new broker is one with which a run may begin
  pub new : (config : HubConfig) → MayBegin (new_hub config)
  -- a client is connected on a connection exactly if the acts of the run say so
  pub connected_is_seen : (begun : HubState) → MayBegin begun
      → (episodes : List Episode) (hub : HubState) → Follows begun episodes hub
      → (client : ℕ) (conn : Conn) → (is_for client (stage_of conn hub.connections) ≡ true) ↔ ((seen client (acts_of episodes)).up ≡ Some conn)
  -- the messages that were placed for a client or that it missed are those that the acts route to
  -- it, from the subscriptions and the retained messages at the beginning
  pub settled_is_routed : (begun : HubState) → MayBegin begun
      → (episodes : List Episode) (hub : HubState) → Follows begun episodes hub
      → (client : ℕ) → settled client (acts_of episodes) ≡ routed_from client (view_of client begun) (acts_of episodes)
  -- a step changes the pending output of a connection only if its event is on the connection, or if
  -- it places a copy for the client that is connected on the connection before the step
  pub others_unchanged : (begun : HubState) → MayBegin begun
      → (before : List Episode) (hub : HubState) → Follows begun before hub
      → (event : HubEvent) (reply : HubReply) (later_hub : HubState) → HubStep hub event reply later_hub
      → (conn : Conn) → is_on conn event ≡ false → list_any (places_on conn hub) reply.acts ≡ false
      → waiting_on conn later_hub.connections ≡ waiting_on conn hub.connections
