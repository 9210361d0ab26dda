-- Worked runs of a broker, with their acts and pending output.
use Rattle.std.specs.Prelude.{◌≡◌, ℕ, Bool, true, false, List, [], ◌∷◌, Option, Some, None}
use Rattle.mq_topic.specs.declared.qos.Qos.{Qos}
use Rattle.mq_topic.specs.declared.qos.Qos.TheVariants.{Q0, Q1, Q2}
use Rattle.mq_packet.specs.declared.connack.RefusalCode.TheVariants.{BadUserNameOrPassword, NotAuthorized}
use Rattle.mq_packet.specs.declared.connect.Will.{Will}
use Rattle.mq_packet.specs.declared.message.Message.{Message}
use Rattle.mq_packet.specs.declared.packet.Request.{Request}
use Rattle.mq_packet.specs.declared.packet.Packet.{Packet}
use Rattle.mq_packet.specs.declared.packet.Packet.TheVariants as packets
use Rattle.mq_decode.specs.Limits.{strict}
use Rattle.mq_end.specs.declared.reason.CloseReason.TheVariants.{Left, Refused}
use Rattle.mq_route.specs.declared.conn.Conn.{Conn}
use Rattle.mq_route.specs.declared.act.Act.TheVariants as acts
use Rattle.mq_route.specs.declared.close.HubClose.TheVariants.{Own, TakenOver, TargetFull, PeerEnded}
use Rattle.mq_route.specs.declared.config.HubConfig.{HubConfig}
use Rattle.mq_route.specs.declared.config.WhenFull.{WhenFull}
use Rattle.mq_route.specs.declared.config.WhenFull.TheVariants.{ClosePublisher, DropCopy}
use Rattle.mq_route.specs.Routed.{routed}
use Rattle.mq_route.specs.Hub.{new_hub, waiting_on}
use Rattle.mq_route.specs.Work.{Work, begin}
use Rattle.mq_route.specs.Arrives.{Growth, on_packet}
use Rattle.mq_route.specs.Step.{on_open, close_if_open}

-- ---- abbreviations

-- each allocation succeeds
abbrev pub fine : Growth
fine = record { fits = true; will_fits = true }

abbrev pub conn : ℕ → Conn
conn number = record { worker = 0; nth = number }

abbrev pub config : HubConfig
config = record { limits = strict 1000; capacity = 10; window = None; max_conns = 10; max_sessions = 10; users = None; hashed_users = None; when_full = ClosePublisher; connect_within = None; session_expiry = None; most_stored = None; most_waiting = None; most_matches = None }

-- a CONNECT
abbrev pub hello : List ℕ → Bool → Option Will → Packet
hello client clean will = packets.Connect (record { client_id = client; clean_session = clean; keep_alive = 0; will = will; login = None })

abbrev pub msg : List ℕ → List ℕ → Qos → Bool → Message
msg topic payload qos retain = record { topic = topic; payload = payload; qos = qos; retain = retain }

abbrev pub publish0 : Message → Packet
publish0 message = packets.Publish (record { message = message; delivery = None })

abbrev pub publish : ℕ → Message → Packet
publish identifier message = packets.Publish (record { message = message; delivery = Some (record { id = identifier; dup = false }) })

abbrev pub ask : List ℕ → Qos → Request
ask topic_filter qos = record { filter = topic_filter; qos = qos }

-- packets arrive, each on its connection
abbrev pub run : List (ℕ × Packet) → Work → Work
run [] work = work
run (first ∷ rest) work = run rest (on_packet (conn first.0) first.1 fine work)

-- connections 1, 2 and 3 are open
abbrev pub open_three : HubConfig → Work
open_three settings = begin (on_open (conn 3) (on_open (conn 2) (on_open (conn 1) (new_hub settings))))

-- ---- runs

-- `c` subscribes to `a/+` and `a/#`; `p` publishes to `a/b` and disconnects
abbrev pub mixed : Work
mixed = run ((1, hello (99 ∷ []) true None) ∷ (1, packets.Subscribe 1 (ask (97 ∷ 47 ∷ 43 ∷ []) Q1 ∷ ask (97 ∷ 47 ∷ 35 ∷ []) Q2 ∷ []))
    ∷ (2, hello (112 ∷ []) true None) ∷ (2, publish 1 (msg (97 ∷ 47 ∷ 98 ∷ []) (104 ∷ 105 ∷ []) Q1 false)) ∷ (2, packets.Disconnect)
    ∷ []) (open_three config)

-- `p` publishes with RETAIN; `c` subscribes to `#` twice, and again after an empty message removed
-- the retained one
abbrev pub retained : Work
retained = run ((1, hello (112 ∷ []) true None) ∷ (1, publish0 (msg (97 ∷ []) (49 ∷ []) Q0 true)) ∷ (2, hello (99 ∷ []) true None)
    ∷ (2, packets.Subscribe 1 (ask (35 ∷ []) Q1 ∷ [])) ∷ (2, packets.Subscribe 2 (ask (35 ∷ []) Q1 ∷ [])) ∷ (1, publish0 (msg (97 ∷ []) [] Q0 true))
    ∷ (2, packets.Subscribe 3 (ask (35 ∷ []) Q1 ∷ [])) ∷ (2, packets.Unsubscribe 4 ((35 ∷ []) ∷ [])) ∷ []) (open_three config)

-- `v` has a will; `c` subscribes to `#`; `v` connects again
abbrev pub over_taken : Work
over_taken = run ((1, hello (118 ∷ []) false (Some (record { topic = 119 ∷ []; message = 120 ∷ []; qos = Q0; retain = false }))) ∷ (
  2,
  hello (99
      ∷ []) true None,
)
    ∷ (2, packets.Subscribe 1 (ask (35 ∷ []) Q1 ∷ [])) ∷ (3, hello (118 ∷ []) false None) ∷ []) (open_three config)

-- `c` subscribes, its connection ends, and it connects again with clean session 1; then `p`
-- publishes
abbrev pub replaced : Work
replaced = run ((2, hello (99 ∷ []) true None) ∷ (3, hello (112 ∷ []) true None) ∷ (3, publish 7 (msg (97 ∷ []) (120 ∷ []) Q1 false)) ∷ [])
    (close_if_open (conn 1) true true (run ((1, hello (99 ∷ []) false None) ∷ (1, packets.Subscribe 1 (ask (35 ∷ []) Q1 ∷ []))
    ∷ []) (open_three config)))

-- one user, and at most one identifier in use
abbrev pub tight : HubConfig
tight = record {
  limits = strict 1000;
  capacity = 1;
  window = None;
  max_conns = 10;
  max_sessions = 10;
  users = Some (record {
    name = 117
        ∷ [];
    password = 112 ∷ [];
  } ∷ []);
  hashed_users = None;
  when_full = ClosePublisher;
  connect_within = None;
  session_expiry = None;
  most_stored = None;
  most_waiting = None;
  most_matches = None;
}

abbrev pub user : List ℕ → Option Will → List ℕ → Packet
user client will password = packets.Connect (record { client_id = client; clean_session = true; keep_alive = 10; will = will; login = Some (record { name = 117 ∷ []; password = Some password }) })

-- a CONNECT without a user name, and one with a wrong password
abbrev pub strangers : Work
strangers = run ((1, hello (99 ∷ []) true None) ∷ (2, user (99 ∷ []) None (113 ∷ [])) ∷ []) (open_three tight)

-- `c` has an identifier in use when `p` publishes again
abbrev pub full_under : WhenFull → Work
full_under policy = run ((1, user (99 ∷ []) None (112 ∷ [])) ∷ (1, packets.Subscribe 1 (ask (35 ∷ []) Q2 ∷ []))
    ∷ (2, user (112 ∷ []) (Some (record { topic = 119 ∷ []; message = []; qos = Q1; retain = false })) (112 ∷ []))
    ∷ (2, publish 1 (msg (97 ∷ []) [] Q1 false)) ∷ (2, publish 2 (msg (97 ∷ []) [] Q1 false)) ∷ []) (open_three (record tight { when_full = policy }))

abbrev pub full : Work
full = full_under ClosePublisher

abbrev pub full_dropping : Work
full_dropping = full_under DropCopy

-- one identifier for two retained messages that match; the one of QoS 0 needs none
abbrev pub retained_dropping : Work
retained_dropping = run ((1, user (99 ∷ []) None (112 ∷ [])) ∷ (1, publish 1 (msg (97 ∷ []) (49 ∷ []) Q1 true)) ∷ (1, publish 2 (msg (98 ∷ []) (50 ∷ []) Q1 true))
    ∷ (1, publish0 (msg (100 ∷ []) (51 ∷ []) Q0 true)) ∷ (1, packets.Subscribe 3 (ask (35 ∷ []) Q2 ∷ [])) ∷ []) (open_three (record tight { when_full = DropCopy }))

-- The results of these runs.
pub record Examples : Type 0 where
  -- one copy, of the highest QoS; the client that disconnects is removed without a will (3.3.5,
  -- 3.14.4)
  pub mixed_acts : mixed.did
      ≡ acts.Up (conn 1) 0 false ∷ acts.Subscribed 0 (97 ∷ 47 ∷ 43 ∷ []) Q1 ∷ acts.Subscribed 0 (97 ∷ 47 ∷ 35 ∷ []) Q2 ∷ acts.Up (conn 2) 1 false
      ∷ acts.Took 1 (msg (97 ∷ 47 ∷ 98 ∷ []) (104 ∷ 105 ∷ []) Q1 false) ∷ acts.Placed 0 (msg (97 ∷ 47 ∷ 98 ∷ []) (104 ∷ 105 ∷ []) Q1 false)
      ∷ acts.Closed (conn 2) (Own Left) ∷ acts.Removed 1 ∷ []
  pub mixed_first : waiting_on (conn 1) mixed.hub.connections
      ≡ 32 ∷ 2 ∷ 0 ∷ 0 ∷ 144 ∷ 4 ∷ 0 ∷ 1 ∷ 1 ∷ 2 ∷ 50 ∷ 9 ∷ 0 ∷ 3 ∷ 97 ∷ 47 ∷ 98 ∷ 0 ∷ 1 ∷ 104 ∷ 105 ∷ []
  pub mixed_second : waiting_on (conn 2) mixed.hub.connections ≡ 32 ∷ 2 ∷ 0 ∷ 0 ∷ 64 ∷ 2 ∷ 0 ∷ 1 ∷ []
  pub mixed_routed : routed 0 (acts.Up (conn 1) 0 false ∷ acts.Subscribed 0 (97 ∷ 47 ∷ 43 ∷ []) Q1 ∷ acts.Subscribed 0 (97 ∷ 47 ∷ 35 ∷ []) Q2
      ∷ acts.Up (conn 2) 1 false
      ∷ acts.Took 1 (msg (97 ∷ 47 ∷ 98 ∷ []) (104 ∷ []) Q1 false) ∷ [])
      ≡ msg (97 ∷ 47 ∷ 98 ∷ []) (104 ∷ []) Q1 false ∷ []
  -- each new subscription gets the retained message, with RETAIN; an empty message is placed and
  -- not retained (3.3.1.3)
  pub retained_bytes : waiting_on (conn 2) retained.hub.connections
      ≡ 32 ∷ 2 ∷ 0 ∷ 0 ∷ 144 ∷ 3 ∷ 0 ∷ 1 ∷ 1 ∷ 49 ∷ 4 ∷ 0 ∷ 1 ∷ 97 ∷ 49 ∷ 144 ∷ 3 ∷ 0 ∷ 2 ∷ 1 ∷ 49 ∷ 4 ∷ 0 ∷ 1 ∷ 97 ∷ 49 ∷ 48 ∷ 3 ∷ 0 ∷ 1 ∷ 97 ∷ 144
      ∷ 3 ∷ 0 ∷ 3 ∷ 1 ∷ 176 ∷ 2 ∷ 0 ∷ 4 ∷ []
  pub retained_routed : routed 1 (acts.Took 0 (msg (97 ∷ []) (49 ∷ []) Q0 true) ∷ acts.Up (conn 2) 1 false ∷ acts.Subscribed 1 (35 ∷ []) Q1
      ∷ acts.Took 0 (msg (97 ∷ []) [] Q0 true) ∷ acts.Subscribed 1 (35 ∷ []) Q1 ∷ [])
      ≡ msg (97 ∷ []) (49 ∷ []) Q0 true ∷ msg (97 ∷ []) [] Q0 false ∷ []
  -- the previous connection is closed, its will is published, and the session continues (3.1.4,
  -- 3.1.2.5)
  pub over_taken_acts : over_taken.did
      ≡ acts.Up (conn 1) 0 false ∷ acts.Up (conn 2) 1 false ∷ acts.Subscribed 1 (35 ∷ []) Q1 ∷ acts.Closed (conn 1) TakenOver
      ∷ acts.Will 0 (msg (119 ∷ []) (120 ∷ []) Q0 false) ∷ acts.Placed 1 (msg (119 ∷ []) (120 ∷ []) Q0 false) ∷ acts.Up (conn 3) 0 true ∷ []
  pub over_taken_bytes : waiting_on (conn 3) over_taken.hub.connections ≡ 32 ∷ 2 ∷ 1 ∷ 0 ∷ []
  -- a session that clean session 1 replaced has no subscriptions (3.1.2.4)
  pub replaced_acts : replaced.did
      ≡ acts.Up (conn 1) 0 false ∷ acts.Subscribed 0 (35 ∷ []) Q1 ∷ acts.Closed (conn 1) PeerEnded ∷ acts.Removed 0 ∷ acts.Up (conn 2) 1 false
      ∷ acts.Up (conn 3) 2 false ∷ acts.Took 2 (msg (97 ∷ []) (120 ∷ []) Q1 false) ∷ []
  -- a client that is not a user is refused (3.2.2.3)
  pub strangers_acts : strangers.did ≡ acts.Closed (conn 1) (Own (Refused NotAuthorized))
      ∷ acts.Closed (conn 2) (Own (Refused BadUserNameOrPassword)) ∷ []
  pub strangers_bytes : waiting_on (conn 1) strangers.hub.connections ≡ 32 ∷ 2 ∷ 0 ∷ 5 ∷ []
  -- a session is full: the publisher's connection is closed, its session removed and its will
  -- dropped
  pub full_acts : full.did
      ≡ acts.Up (conn 1) 0 false ∷ acts.Subscribed 0 (35 ∷ []) Q2 ∷ acts.Up (conn 2) 1 false ∷ acts.Took 1 (msg (97 ∷ []) [] Q1 false)
      ∷ acts.Placed 0 (msg (97 ∷ []) [] Q1 false)
      ∷ acts.Closed (conn 2) TargetFull ∷ acts.Removed 1 ∷ acts.WillDropped 1 ∷ []
  -- under DropCopy, the full session misses the copy, and the publisher is acknowledged
  pub full_dropping_acts : full_dropping.did
      ≡ acts.Up (conn 1) 0 false ∷ acts.Subscribed 0 (35 ∷ []) Q2 ∷ acts.Up (conn 2) 1 false ∷ acts.Took 1 (msg (97 ∷ []) [] Q1 false)
      ∷ acts.Placed 0 (msg (97 ∷ []) [] Q1 false) ∷ acts.Took 1 (msg (97 ∷ []) [] Q1 false) ∷ acts.Missed 0 (msg (97 ∷ []) [] Q1 false) ∷ []
  pub full_dropping_bytes : waiting_on (conn 2) full_dropping.hub.connections ≡ 32 ∷ 2 ∷ 0 ∷ 0 ∷ 64 ∷ 2 ∷ 0 ∷ 1 ∷ 64 ∷ 2 ∷ 0 ∷ 2 ∷ []
  -- under DropCopy, a SUBSCRIBE gets the retained messages for which its session has room
  pub retained_dropping_acts : retained_dropping.did
      ≡ acts.Up (conn 1) 0 false ∷ acts.Took 0 (msg (97 ∷ []) (49 ∷ []) Q1 true) ∷ acts.Took 0 (msg (98 ∷ []) (50 ∷ []) Q1 true)
      ∷ acts.Took 0 (msg (100 ∷ []) (51 ∷ []) Q0 true) ∷ acts.Subscribed 0 (35 ∷ []) Q2 ∷ acts.Placed 0 (msg (97 ∷ []) (49 ∷ []) Q1 true)
      ∷ acts.Missed 0 (msg (98 ∷ []) (50 ∷ []) Q1 true) ∷ acts.Placed 0 (msg (100 ∷ []) (51 ∷ []) Q0 true) ∷ []
