-- A connection that sends no CONNECT in time is closed by a tick (3.1).
use Rattle.std.specs.Prelude.{◌≡◌, ℕ, ◌&&◌, Bool, true, false, List, [], ◌∷◌, map, filter, max, Option, None}
use Rattle.mq_route.specs.declared.act.Act.{Act}
use Rattle.mq_route.specs.declared.close.HubClose.{HubClose}
use Rattle.mq_route.specs.declared.close.HubClose.TheVariants.{Own, TargetFull, TakenOver, PeerEnded, NoConnect, TooManyMatches}
use Rattle.mq_route.specs.declared.config.HubConfig.{HubConfig}
use Rattle.mq_route.specs.declared.conn.Conn.{Conn}
use Rattle.mq_route.specs.declared.event.HubEvent.{HubEvent}
use Rattle.mq_route.specs.declared.event.HubEvent.TheVariants.{Opened, Bytes, Ended, Tick, Collect}
use Rattle.mq_route.specs.declared.reply.HubReply.{HubReply}
use Rattle.mq_route.specs.declared.connection_state.ConnectionState.{ConnectionState}
use Rattle.mq_route.specs.declared.connection_state.ConnectionState.TheVariants.{AwaitingConnect, ConnectedAs, Closed}
use Rattle.mq_route.specs.Closes.{closes_for}
use Rattle.mq_route.specs.Hub.{HubState, HubConnection, new_hub}
use Rattle.mq_route.specs.Work.{Work}
use Rattle.mq_route.specs.Step.{has_passed, Does, event_refusal}
use Rattle.mq_route.specs.Runs.{Episode, Follows}

-- the connection, if this is the reason for its close
abbrev pub if_silent : HubClose → Conn → List Conn
if_silent NoConnect conn = conn ∷ []
if_silent (Own reason) conn = []
if_silent TargetFull conn = []
if_silent TakenOver conn = []
if_silent PeerEnded conn = []
if_silent TooManyMatches conn = []

-- the connections that close because no CONNECT arrived in time
abbrev pub silent_closes : List Act → List Conn
silent_closes log = closes_for if_silent log

abbrev pub awaits_connect : ConnectionState → Bool
awaits_connect AwaitingConnect = true
awaits_connect (ConnectedAs key terms last_activity) = false
awaits_connect Closed = false

-- the connections that wait for CONNECT for too long, in the order in which they were opened
abbrev pub silent : Option ℕ → ℕ → List HubConnection → List Conn
silent within now connections = map (λ connection. connection.conn) (filter (λ connection. awaits_connect connection.stage && has_passed within connection.since now) connections)

-- only a tick closes them
abbrev pub due_closes : HubEvent → HubState → List Conn
due_closes (Tick now) hub = silent hub.config.connect_within (max hub.clock now) hub.connections
due_closes (Opened conn) hub = []
due_closes (Bytes conn piece) hub = []
due_closes (Ended conn) hub = []
due_closes (Collect conn) hub = []

pub record SilentLaws : Type 0 where
  -- in each step of a run, the connections that close with NoConnect are those that wait for
  -- CONNECT for too long at a tick; so no connected client is closed for it
  pub closes : (config : HubConfig) (before : List Episode) (hub : HubState) → Follows (new_hub config) before hub
      → (event : HubEvent) (reply : HubReply) (work : Work) → event_refusal event hub ≡ None → Does hub event reply work
      → silent_closes work.did ≡ due_closes event hub
