-- Runs of a broker: events one after another, and the result of each.
use Rattle.std.specs.Prelude.{◌≡◌, ℕ, ◌+◌, Bool, false, List, [], ◌∷◌, length, map, None, if◌then◌else◌}
use Rattle.std.specs.List.{flat_map}
use Rattle.mq_packet.specs.declared.packet.Packet.{Packet}
use Rattle.mq_route.specs.declared.conn.Conn.{Conn}
use Rattle.mq_route.specs.declared.act.Act.{Act}
use Rattle.mq_route.specs.declared.event.HubEvent.{HubEvent}
use Rattle.mq_route.specs.declared.event.HubEvent.TheVariants.{Opened, Bytes, Ended, Tick, Collect}
use Rattle.mq_route.specs.declared.config.HubConfig.{HubConfig}
use Rattle.mq_route.specs.declared.reply.HubReply.{HubReply}
use Rattle.mq_route.specs.declared.trace.ClientLog.{ClientLog}
use Rattle.mq_route.specs.declared.trace.HubTrace.{HubTrace}
use Rattle.mq_route.specs.Routed.{same_conn, placed, missed, taken}
use Rattle.mq_route.specs.Hub.{HubState, new_hub}
use Rattle.mq_route.specs.Work.{Work}
use Rattle.mq_route.specs.Step.{Does, event_refusal}

-- An event with its reply, and the step with its logs.
pub record Episode : Type 0 where
  pub event : HubEvent
  pub reply : HubReply
  pub work : Work

-- Each episode begins with the broker that the one before leaves.
abbrev pub Follows : HubState → List Episode → HubState → Type 0
Follows hub [] later_hub = later_hub ≡ hub
Follows hub (episode ∷ episodes) later_hub =
    (event_refusal episode.event hub ≡ None) × Does hub episode.event episode.reply episode.work × Follows episode.work.hub episodes later_hub

-- all acts; all packets that were sent; all packets that were logged of connected clients
abbrev pub acts_of : List Episode → List Act
acts_of episodes = flat_map (λ episode. episode.reply.acts) episodes

abbrev pub sent_in : List Episode → List (Conn × Packet)
sent_in episodes = flat_map (λ episode. episode.work.sent) episodes

abbrev pub came_in : List Episode → List (ℕ × Packet)
came_in episodes = flat_map (λ episode. episode.work.came) episodes

-- the packets that were sent on one connection
abbrev pub on_conn : Conn → List (Conn × Packet) → List Packet
on_conn conn [] = []
on_conn conn (first ∷ rest) = if same_conn first.0 conn then first.1 ∷ on_conn conn rest else on_conn conn rest

-- the event takes the pending output of a connection
abbrev pub collects : Conn → HubEvent → Bool
collects conn (Collect other) = same_conn other conn
collects conn (Opened other) = false
collects conn (Bytes other piece) = false
collects conn (Ended other) = false
collects conn (Tick now) = false

-- the output that it takes
abbrev pub written_by : Conn → Episode → List ℕ
written_by conn episode = if collects conn episode.event then episode.reply.output else []

abbrev pub written : Conn → List Episode → List ℕ
written conn episodes = flat_map (written_by conn) episodes

-- the event ends a connection
abbrev pub ends_it : Conn → HubEvent → Bool
ends_it conn (Ended other) = same_conn other conn
ends_it conn (Opened other) = false
ends_it conn (Bytes other piece) = false
ends_it conn (Tick now) = false
ends_it conn (Collect other) = false

-- the event is on a connection
abbrev pub is_on : Conn → HubEvent → Bool
is_on conn (Opened other) = same_conn other conn
is_on conn (Bytes other piece) = same_conn other conn
is_on conn (Ended other) = same_conn other conn
is_on conn (Tick now) = false
is_on conn (Collect other) = same_conn other conn

-- no event ends the connection
abbrev pub Stays : Conn → List Episode → Type 0
Stays conn [] = Unit {0}
Stays conn (episode ∷ episodes) = (ends_it conn episode.event ≡ false) × Stays conn episodes

-- the logs of the clients from this key on, by these acts
abbrev pub AreAccounts : ℕ → List Act → List ClientLog → Type 0
AreAccounts client log [] = Unit {0}
AreAccounts client log (account ∷ more) =
    (account.taken ≡ taken client log)
    × (account.placed ≡ placed client log)
    × (account.missed ≡ missed client log)
    × AreAccounts (client + 1) log more

-- From a new broker, these events result in these replies and this broker.
pub record IsRun (config : HubConfig) (events : List HubEvent) (hub : HubState) (trace : HubTrace) : Type 0 where
  pub episodes : List Episode
  pub came : map (λ episode. episode.event) episodes ≡ events
  pub replied : map (λ episode. episode.reply) episodes ≡ trace.replies
  pub follows : Follows (new_hub config) episodes hub
  -- one log for each key that was assigned
  pub keys : length trace.accounts ≡ hub.next_key
  pub accounts : AreAccounts 0 (acts_of episodes) trace.accounts
