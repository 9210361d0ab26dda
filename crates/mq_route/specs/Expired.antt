-- Sessions of clients that are absent for too long expire (3.1.2.4).
use Rattle.std.specs.Prelude.{◌≡◌, ℕ, ◌+◌, ◌<◌, ◌≤◌, Bool, List, map, max, Some, None}
use Rattle.std.specs.List.{AllByRecursion}
use Rattle.mq_route.specs.declared.act.Act.TheVariants as acts
use Rattle.mq_route.specs.declared.close.HubClose.{HubClose}
use Rattle.mq_route.specs.declared.config.HubConfig.{HubConfig}
use Rattle.mq_route.specs.declared.conn.Conn.{Conn}
use Rattle.mq_route.specs.declared.event.HubEvent.TheVariants.{Tick}
use Rattle.mq_route.specs.declared.reply.HubReply.{HubReply}
use Rattle.mq_route.specs.Full.{IsAmong}
use Rattle.mq_route.specs.Hub.{HubState, HubSession, key_on, new_hub, stage_of, up_on}
use Rattle.mq_route.specs.Work.{Work, begin, close}
use Rattle.mq_route.specs.Runs.{Episode, Follows}
use Rattle.mq_route.specs.Step.{Does, OnTick, expire, expired_keys, with_clock}

-- The client has a session, is not connected, and disconnected longer ago than the limit.
pub record IsAway (hub : HubState) (client : ℕ) : Type 0 where
  pub session : HubSession
  pub exists : IsAmong session hub.sessions
  pub named : session.key ≡ client
  pub absent : up_on client hub.connections ≡ None
  pub most : ℕ
  pub limit : hub.config.session_expiry ≡ Some most
  pub longer : session.left + most < hub.clock

pub record ExpiryLaws : Type 0 where
  -- a tick begins with the sessions that expire
  pub first : (hub : HubState) (now : ℕ) (reply : HubReply) (work : Work) → Does hub (Tick now) reply work
      → OnTick hub.config.connect_within (max hub.clock now) hub.connections (expire (with_clock now hub)) work
  -- these are removed, and no other one
  pub removed : (hub : HubState) → (expire hub).did ≡ map (λ client. acts.Removed client) (expired_keys hub)
  -- their clients are away for longer than the limit
  pub away : (hub : HubState) → AllByRecursion (IsAway hub) (expired_keys hub)
  -- without a limit there are none
  pub never : (hub : HubState) → hub.config.session_expiry ≡ None → expire hub ≡ begin hub
  -- when a connection closes, its client's session stores the time
  pub left : (conn : Conn) (why : HubClose) (fits : Bool) (work : Work) (client : ℕ) → key_on (stage_of conn work.hub.connections) ≡ Some client
      → AllByRecursion (λ session. session.key ≡ client → session.left ≡ work.hub.clock) (close conn why fits work).hub.sessions
  -- after a tick in a run, the client of each session is connected, or disconnected no longer ago
  -- than the limit
  pub remaining : (config : HubConfig) (before : List Episode) (hub : HubState) → Follows (new_hub config) before hub
      → (now : ℕ) (reply : HubReply) (work : Work) → Does hub (Tick now) reply work → (most : ℕ) → hub.config.session_expiry ≡ Some most
      → AllByRecursion (λ session. up_on session.key work.hub.connections ≡ None → work.hub.clock ≤ session.left + most) work.hub.sessions
