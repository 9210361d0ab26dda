-- The packets that a broker reads from the bytes of a connection.
use Rattle.std.specs.Prelude.{◌≡◌, ℕ, true, List, [], ◌∷◌, ◌++◌, if◌then◌else◌}
use Rattle.std.specs.List.{flat_map}
use Rattle.mq_packet.specs.declared.packet.Packet.{Packet}
use Rattle.mq_decode.specs.Grammar.{Stream}
use Rattle.mq_decode.specs.Limits.{Bounds}
use Rattle.mq_route.specs.declared.conn.Conn.{Conn}
use Rattle.mq_route.specs.declared.config.HubConfig.{HubConfig}
use Rattle.mq_route.specs.declared.event.HubEvent.{HubEvent}
use Rattle.mq_route.specs.declared.event.HubEvent.TheVariants.{Opened, Bytes, Ended, Tick, Collect}
use Rattle.mq_route.specs.declared.reply.HubReply.{HubReply}
use Rattle.mq_route.specs.Routed.{same_conn}
use Rattle.mq_route.specs.Hub.{HubState, new_hub, knows, stage_of, is_open, key_on, held_on}
use Rattle.mq_route.specs.Work.{Work, begin}
use Rattle.mq_route.specs.Arrives.{noted, on_packet}
use Rattle.mq_route.specs.Step.{holding, OnBytes, Arrives, Waits, Breaks, Starves, LetsGo, Does}
use Rattle.mq_route.specs.Runs.{Episode, Follows, Stays}

-- the packets that are read from these bytes
abbrev pub reads_in : (limits : Bounds) (conn : Conn) (bytes : List ℕ) (start stop : Work) → OnBytes limits conn bytes start stop → List Packet
reads_in limits conn bytes start stop (Arrives packet first rest growth work last on reads more) =
    packet ∷ reads_in limits conn rest (on_packet conn packet growth work) last more
reads_in limits conn bytes start stop (Waits rest work on pending) = []
reads_in limits conn bytes start stop (Breaks rest fault fits work on faulty) = []
reads_in limits conn bytes start stop (Starves rest fits work on some) = []
reads_in limits conn bytes start stop (LetsGo rest work closed) = []

-- the packets that are read on a connection in an event
abbrev pub read_by : (conn : Conn) (hub : HubState) (event : HubEvent) (reply : HubReply) (work : Work) → Does hub event reply work → List Packet
read_by conn hub (Bytes other piece) reply work does =
    if same_conn other conn then reads_in hub.config.limits other (held_on other hub.connections ++ piece) (holding other [] (begin hub)) work does.0 else []
read_by conn hub (Opened other) reply work does = []
read_by conn hub (Ended other) reply work does = []
read_by conn hub (Tick now) reply work does = []
read_by conn hub (Collect other) reply work does = []

-- the packets that are read on a connection in a run
abbrev pub read_on : (conn : Conn) (hub : HubState) (episodes : List Episode) (later_hub : HubState) → Follows hub episodes later_hub → List Packet
read_on conn hub [] later_hub follows = []
read_on conn hub (episode ∷ episodes) later_hub follows =
    read_by conn hub episode.event episode.reply episode.work follows.1 ++ read_on conn episode.work.hub episodes later_hub follows.2

-- the packets that are logged from these bytes, each with its client: the client was connected
-- before the packet, and the connection is open after it
abbrev pub logged_in : (limits : Bounds) (conn : Conn) (bytes : List ℕ) (start stop : Work) → OnBytes limits conn bytes start stop → List (ℕ × Packet)
logged_in limits conn bytes start stop (Arrives packet first rest growth work last on reads more) =
    let now = on_packet conn packet growth work in
    noted (key_on (stage_of conn work.hub.connections)) (is_open (stage_of conn now.hub.connections)) packet ++ logged_in limits conn rest now last more
logged_in limits conn bytes start stop (Waits rest work on pending) = []
logged_in limits conn bytes start stop (Breaks rest fault fits work on faulty) = []
logged_in limits conn bytes start stop (Starves rest fits work on some) = []
logged_in limits conn bytes start stop (LetsGo rest work closed) = []

-- the packets that are logged in an event
abbrev pub logged_by : (hub : HubState) (event : HubEvent) (reply : HubReply) (work : Work) → Does hub event reply work → List (ℕ × Packet)
logged_by hub (Bytes conn piece) reply work does =
    logged_in hub.config.limits conn (held_on conn hub.connections ++ piece) (holding conn [] (begin hub)) work does.0
logged_by hub (Opened conn) reply work does = []
logged_by hub (Ended conn) reply work does = []
logged_by hub (Tick now) reply work does = []
logged_by hub (Collect conn) reply work does = []

-- the bytes that arrive on a connection
abbrev pub bytes_to : Conn → HubEvent → List ℕ
bytes_to conn (Bytes other piece) = if same_conn other conn then piece else []
bytes_to conn (Opened other) = []
bytes_to conn (Ended other) = []
bytes_to conn (Tick now) = []
bytes_to conn (Collect other) = []

abbrev pub arrived : Conn → List Episode → List ℕ
arrived conn episodes = flat_map (λ episode. bytes_to conn episode.event) episodes

-- The packets are encoded by the beginning of the bytes that a connection held and that arrive on
-- it. If the connection is open at the end, it holds the rest.
pub record IsRead (conn : Conn) (limits : Bounds) (packets : List Packet) (bytes : List ℕ) (hub : HubState) : Type 0 where
  pub front : List ℕ
  pub rest : List ℕ
  pub stream : Stream limits packets front
  pub parts : bytes ≡ front ++ rest
  pub held : is_open (stage_of conn hub.connections) ≡ true → held_on conn hub.connections ≡ rest

pub record ReadLaws : Type 0 where
  -- a broker's configuration never changes
  pub same_config : (config : HubConfig) (episodes : List Episode) (hub : HubState) → Follows (new_hub config) episodes hub → hub.config ≡ config
  -- from any time in a run, until a connection ends: the packets that are read on it are those that
  -- its bytes encode
  pub read : (config : HubConfig) (before : List Episode) (hub : HubState) → Follows (new_hub config) before hub
      → (after : List Episode) (later_hub : HubState) (follows : Follows hub after later_hub) (conn : Conn) → Stays conn after → knows conn hub.connections ≡ true
      → IsRead conn config.limits (read_on conn hub after later_hub follows) (held_on conn hub.connections ++ arrived conn after) later_hub
  -- in each event, the logged packets are those that are read of a connected client and leave its
  -- connection open
  pub logged : (hub : HubState) (event : HubEvent) (reply : HubReply) (work : Work) (does : Does hub event reply work)
      → work.came ≡ logged_by hub event reply work does
