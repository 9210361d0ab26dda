-- Why a will is dropped (3.1.2.5).
use Rattle.std.specs.Prelude.{◌≡◌, ◌⊎◌, ℕ, ◌==◌, Bool, true, false, List, [], ◌∷◌, ◌++◌, max, Option, Some, None}
use Rattle.std.specs.List.{flat_map, list_any}
use Rattle.mq_packet.specs.declared.connect.Will.{Will}
use Rattle.mq_decode.specs.Limits.{Bounds}
use Rattle.mq_end.specs.End.{over}
use Rattle.mq_route.specs.declared.act.Act.{Act}
use Rattle.mq_route.specs.declared.act.Act.TheVariants as acts
use Rattle.mq_route.specs.declared.close.HubClose.{HubClose}
use Rattle.mq_route.specs.declared.config.HubConfig.{HubConfig}
use Rattle.mq_route.specs.declared.config.WhenFull.{WhenFull}
use Rattle.mq_route.specs.declared.config.WhenFull.TheVariants.{ClosePublisher}
use Rattle.mq_route.specs.declared.conn.Conn.{Conn}
use Rattle.mq_route.specs.declared.event.HubEvent.{HubEvent}
use Rattle.mq_route.specs.declared.event.HubEvent.TheVariants.{Opened, Bytes, Ended, Tick, Collect}
use Rattle.mq_route.specs.declared.reply.HubReply.{HubReply}
use Rattle.mq_route.specs.declared.connection_state.ConnectionState.TheVariants.{ConnectedAs}
use Rattle.mq_route.specs.declared.connection_state.ConnectionTerms.{ConnectionTerms}
use Rattle.mq_route.specs.Copies.{will_message}
use Rattle.mq_route.specs.Hub.{HubState, HubConnection, new_hub, stage_of, held_on, end_of, with_end, copies_of}
use Rattle.mq_route.specs.Work.{Work, begin, said, shut, with_sessions, have_room, remove_if, will_after, close}
use Rattle.mq_route.specs.Arrives.{on_packet}
use Rattle.mq_route.specs.Step.{holding, OnBytes, Arrives, Waits, Breaks, Starves, LetsGo, OnTick, Done, InTime, Late, Does, event_refusal, expire, with_clock}
use Rattle.mq_route.specs.Runs.{Episode, Follows}

unfoldable pub dropped_by : Act → List ℕ
dropped_by (acts.WillDropped client) = client ∷ []
dropped_by (acts.Up conn client present) = []
dropped_by (acts.Took client message) = []
dropped_by (acts.Placed client message) = []
dropped_by (acts.Missed client message) = []
dropped_by (acts.Subscribed client topic_filter qos) = []
dropped_by (acts.Unsubscribed client topic_filter) = []
dropped_by (acts.Will client message) = []
dropped_by (acts.Closed conn why) = []
dropped_by (acts.Removed client) = []

-- the clients whose wills are dropped
abbrev pub dropped : List Act → List ℕ
dropped log = flat_map dropped_by log

abbrev pub is_in : ℕ → List ℕ → Bool
is_in client clients = list_any (λ other. other == client) clients

-- a client's connection is closed, and its session is disconnected, or removed after clean session
-- 1
abbrev pub when_over : Conn → HubClose → ℕ → ConnectionTerms → Work → Work
when_over conn why key terms work =
    remove_if terms.clean_session key (with_sessions (with_end key (over (end_of key work.hub.sessions))) (said (acts.Closed conn why) (shut conn work)))

-- The client is connected and has a will, and its connection closes (3.1.2.5). Either an allocation
-- for the will fails; or the policy is ClosePublisher, and after the close a session has too few
-- packet identifiers free for its copies of the will (2.3.1).
pub record LosesWill (policy : WhenFull) (client : ℕ) (fits : Bool) (work : Work) : Type 0 where
  pub conn : Conn
  pub why : HubClose
  pub terms : ConnectionTerms
  pub last_activity : ℕ
  pub connected : stage_of conn work.hub.connections ≡ ConnectedAs client terms last_activity
  pub will : Will
  pub has : will_after why terms.will ≡ Some will
  pub short : let after = when_over conn why client terms work in
      (fits ≡ false) ⊎ ((policy ≡ ClosePublisher) × (have_room (copies_of (will_message will) after.hub) after.hub ≡ false))

-- the client loses its will at one of the packets in these bytes, or at a fault
abbrev pub OnBytesLosing : WhenFull → ℕ → (limits : Bounds) (conn : Conn) (bytes : List ℕ) (start stop : Work) → OnBytes limits conn bytes start stop → Type 0
OnBytesLosing policy client limits conn bytes start stop (Arrives packet first rest growth work last on reads more) =
    LosesWill policy client growth.will_fits work ⊎ OnBytesLosing policy client limits conn rest (on_packet conn packet growth work) last more
OnBytesLosing policy client limits conn bytes start stop (Waits rest work on pending) = ⊥
OnBytesLosing policy client limits conn bytes start stop (Breaks rest fault fits work on faulty) = LosesWill policy client fits work
OnBytesLosing policy client limits conn bytes start stop (Starves rest fits work on some) = LosesWill policy client fits work
OnBytesLosing policy client limits conn bytes start stop (LetsGo rest work closed) = ⊥

-- the client loses its will when one of the late connections closes
abbrev pub OnTickLosing : WhenFull → ℕ → (within : Option ℕ) (now : ℕ) (connections : List HubConnection) (start stop : Work) → OnTick within now connections start stop → Type 0
OnTickLosing policy client within now connections start stop (Done work) = ⊥
OnTickLosing policy client within now connections start stop (InTime connection rest work last soon more) = OnTickLosing policy client within now rest work last more
OnTickLosing policy client within now connections start stop (Late connection rest why fits work last late more) =
    LosesWill policy client fits work ⊎ OnTickLosing policy client within now rest (close connection.conn why fits work) last more

-- the client loses its will in the event
abbrev pub IsLosingEvent : ℕ → (hub : HubState) (event : HubEvent) (reply : HubReply) (work : Work) → Does hub event reply work → Type 0
IsLosingEvent client hub (Opened conn) reply work does = ⊥
IsLosingEvent client hub (Bytes conn piece) reply work does =
    OnBytesLosing hub.config.when_full client hub.config.limits conn (held_on conn hub.connections ++ piece) (holding conn [] (begin hub)) work does.0
IsLosingEvent client hub (Ended conn) reply work does = LosesWill hub.config.when_full client does.0 (begin hub)
IsLosingEvent client hub (Tick now) reply work does =
    OnTickLosing hub.config.when_full client hub.config.connect_within (max hub.clock now) hub.connections (expire (with_clock now hub)) work does.0
IsLosingEvent client hub (Collect conn) reply work does = ⊥

pub record WillLaws : Type 0 where
  -- in each step of a run, a client whose will is dropped has a reason: a failed allocation, or,
  -- under ClosePublisher alone, a session without room for a copy
  pub drops : (config : HubConfig) (before : List Episode) (hub : HubState) → Follows (new_hub config) before hub
      → (event : HubEvent) (reply : HubReply) (work : Work) → event_refusal event hub ≡ None → (does : Does hub event reply work)
      → (client : ℕ) → is_in client (dropped work.did) ≡ true → IsLosingEvent client hub event reply work does
