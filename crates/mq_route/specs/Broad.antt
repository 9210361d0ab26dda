-- A SUBSCRIBE with too many filters for the number of retained messages closes its connection
-- (3.8.4).
use Rattle.std.specs.Prelude.{◌≡◌, ◌⊎◌, ℕ, ◌≤◌, ◌*◌, true, List, [], ◌∷◌, ◌++◌, length, Some, None}
use Rattle.mq_packet.specs.declared.message.Message.{Message}
use Rattle.mq_packet.specs.declared.packet.Packet.{Packet}
use Rattle.mq_packet.specs.declared.packet.Request.{Request}
use Rattle.mq_decode.specs.Limits.{Bounds}
use Rattle.mq_route.specs.declared.act.Act.{Act}
use Rattle.mq_route.specs.declared.close.HubClose.{HubClose}
use Rattle.mq_route.specs.declared.close.HubClose.TheVariants.{Own, TargetFull, TakenOver, PeerEnded, NoConnect, TooManyMatches}
use Rattle.mq_route.specs.declared.config.HubConfig.{HubConfig}
use Rattle.mq_route.specs.declared.conn.Conn.{Conn}
use Rattle.mq_route.specs.declared.event.HubEvent.{HubEvent}
use Rattle.mq_route.specs.declared.event.HubEvent.TheVariants.{Opened, Bytes, Ended, Tick, Collect}
use Rattle.mq_route.specs.declared.reply.HubReply.{HubReply}
use Rattle.mq_route.specs.Closes.{closes_for}
use Rattle.mq_route.specs.Hub.{HubState, new_hub, stage_of, held_on, key_on}
use Rattle.mq_route.specs.Work.{Work, begin, retained_copies}
use Rattle.mq_route.specs.Arrives.{Growth, is_too_broad, on_packet}
use Rattle.mq_route.specs.Step.{holding, OnBytes, Arrives, Waits, Breaks, Starves, LetsGo, Does, event_refusal}
use Rattle.mq_route.specs.Runs.{Episode, Follows}

-- the connection, if this is the reason for its close
abbrev pub if_broad : HubClose → Conn → List Conn
if_broad TooManyMatches conn = conn ∷ []
if_broad (Own reason) conn = []
if_broad TargetFull conn = []
if_broad TakenOver conn = []
if_broad PeerEnded conn = []
if_broad NoConnect conn = []

-- the connections that close because a SUBSCRIBE is too broad
abbrev pub broad_closes : List Act → List Conn
broad_closes log = closes_for if_broad log

-- a SUBSCRIBE that is too broad arrives for a connected client and closes its connection
pub record IsTooBroad (conn : Conn) (packet : Packet) (growth : Growth) (work : Work) : Type 0 where
  pub key : ℕ
  pub connected : key_on (stage_of conn work.hub.connections) ≡ Some key
  pub broad : is_too_broad packet work.hub ≡ true
  pub none_before : broad_closes work.did ≡ []
  pub closes : broad_closes (on_packet conn packet growth work).did ≡ conn ∷ []

-- one of the packets in these bytes is too broad
abbrev pub ComesTooBroad : (limits : Bounds) (conn : Conn) (bytes : List ℕ) (start stop : Work) → OnBytes limits conn bytes start stop → Type 0
ComesTooBroad limits conn bytes start stop (Arrives packet first rest growth work last on reads more) =
    IsTooBroad conn packet growth work ⊎ ComesTooBroad limits conn rest (on_packet conn packet growth work) last more
ComesTooBroad limits conn bytes start stop (Waits rest work on pending) = ⊥
ComesTooBroad limits conn bytes start stop (Breaks rest fault fits work on faulty) = ⊥
ComesTooBroad limits conn bytes start stop (Starves rest fits work on some) = ⊥
ComesTooBroad limits conn bytes start stop (LetsGo rest work closed) = ⊥

-- the event has bytes, one of their packets is too broad, and its connection is the only one that
-- closes for this reason
abbrev pub IsBroadEvent : (hub : HubState) (event : HubEvent) (reply : HubReply) (work : Work) → Does hub event reply work → Type 0
IsBroadEvent hub (Bytes conn piece) reply work does = (broad_closes work.did ≡ conn ∷ [])
    × ComesTooBroad hub.config.limits conn (held_on conn hub.connections ++ piece) (holding conn [] (begin hub)) work does.0
IsBroadEvent hub (Opened conn) reply work does = ⊥
IsBroadEvent hub (Ended conn) reply work does = ⊥
IsBroadEvent hub (Tick now) reply work does = ⊥
IsBroadEvent hub (Collect conn) reply work does = ⊥

pub record BroadLaws : Type 0 where
  -- in each step of a run, no connection closes for this reason, or one does at its own SUBSCRIBE
  -- that is too broad
  pub closes : (config : HubConfig) (before : List Episode) (hub : HubState) → Follows (new_hub config) before hub
      → (event : HubEvent) (reply : HubReply) (work : Work) → event_refusal event hub ≡ None → (does : Does hub event reply work)
      → (broad_closes work.did ≡ []) ⊎ IsBroadEvent hub event reply work does
  -- without a limit, no connection closes for this reason
  pub never : (config : HubConfig) → config.most_matches ≡ None → (before : List Episode) (hub : HubState) → Follows (new_hub config) before hub
      → (event : HubEvent) (reply : HubReply) (work : Work) → event_refusal event hub ≡ None → Does hub event reply work → broad_closes work.did ≡ []
  -- a SUBSCRIBE is sent at most as many retained messages as its comparisons
  pub few : (key : ℕ) (requests : List Request) (retained : List Message)
      → length (retained_copies key requests retained) ≤ length requests * length retained
