-- Placing copies of messages for clients (3.3.5, 3.8.4).
use Rattle.std.specs.Prelude.{◌≡◌, ℕ, List, is_some, Some, ◌==◌, Bool, false, [], ◌∷◌, map, ◌&&◌, ◌||◌, not, ◌+◌, length, Option, if◌then◌else◌, true}
use Rattle.std.specs.List.{flat_map, list_any, AllByRecursion}
use Rattle.mq_topic.specs.declared.qos.Qos.{Qos}
use Rattle.mq_packet.specs.declared.message.Message.{Message}
use Rattle.mq_flow.specs.Sender.{is_full}
use Rattle.mq_flow.specs.Stored.{message_bytes, stored_bytes}
use Rattle.mq_end.specs.Both.{has_identifier}
use Rattle.mq_route.specs.Hub.{HubConnection, up_on, for_key, HubState, end_of}
use Rattle.mq_route.specs.Copies.{copy_by}
use Rattle.mq_route.specs.declared.act.Act.{Act}
use Rattle.mq_route.specs.declared.act.Act.TheVariants as acts
use Rattle.mq_route.specs.declared.config.HubConfig.{HubConfig}
use Rattle.mq_route.specs.Work.{leaves, publish_bytes, drops_copies}
use Rattle.mq_route.specs.declared.act.Act.TheVariants as acts
use Rattle.mq_route.specs.declared.act.Act.TheVariants as acts
use Rattle.mq_tables.specs.declared.sessions.session.BrokerSession.{BrokerSession}
use Rattle.mq_tables.specs.declared.rules.CopyRules.{CopyRules}
use Rattle.mq_tables.specs.declared.space.Space.{Space}
use Rattle.mq_tables.specs.Sessions.{session_at, sessions_of, AreAscending}
use Rattle.mq_tables.specs.Output.{output_of}
use Rattle.mq_tables.specs.Rules.{skips, space_after}
use Rattle.mq_tables.specs.Tables.{HubTables}
use Rattle.mq_tables.specs.Publishing.{MayGo, IsReadyAt, placed_at}
use Rattle.mq_hub.specs.declared.publish.queued_answer.QueuedAnswer.{QueuedAnswer}
use Rattle.mq_hub.specs.Inside.QueuedAnswer.{answer_for}
use Rattle.mq_hub.specs.Inside.Invariant.{AreApart as AreLinesApart}

-- ---- copies

-- the same clients are connected
abbrev pub AreUpAlike : List HubConnection → List HubConnection → Type 0
AreUpAlike connections others = (key : ℕ) → is_some (up_on key connections) ≡ is_some (up_on key others)

-- a copy for each client that was found, by the greatest quality of service of its matching rows
-- (3.3.5)
abbrev pub copies_found : List HubConnection → Message → List (ℕ × Qos) → List (ℕ × Message)
copies_found connections message found = flat_map (λ pair. for_key pair.0 (copy_by (is_some (up_on pair.0 connections)) message (Some pair.1))) found

-- one of these copies is for this client
abbrev pub is_among : ℕ → List (ℕ × Message) → Bool
is_among key copies = list_any (λ copy. copy.0 == key) copies

-- no two copies are for one client
abbrev pub AreApart : List (ℕ × Message) → Type 0
AreApart [] = Unit {0}
AreApart (copy ∷ rest) = (is_among copy.0 rest ≡ false) × AreApart rest

-- these messages are for a client that has a session, which may send them
pub record IsFor (key : ℕ) (messages : List Message) (sessions : List BrokerSession) : Type 0 where
  pub session : BrokerSession
  pub there : session_at key sessions ≡ Some session
  pub may_go : AllByRecursion (λ message. MayGo message session.end) messages

-- each copy is for a client that has a session, which may send it
abbrev pub AreFor : List BrokerSession → List (ℕ × Message) → Type 0
AreFor sessions copies = AllByRecursion (λ copy. IsFor copy.0 (copy.1 ∷ []) sessions) copies

-- a broker has these sessions, and its configuration limits the identifiers of each (2.3.1)
pub record HasSessions (stored : List BrokerSession) (hub : HubState) : Type 0 where
  pub sessions : hub.sessions ≡ sessions_of stored
  pub capacity : AllByRecursion (λ session. session.end.capacity ≡ hub.config.capacity) stored

-- the session of each copy has room for it and for `more` bytes besides
abbrev pub AreReady : ℕ → List BrokerSession → List (ℕ × Message) → Type 0
AreReady more sessions copies = AllByRecursion (λ copy. IsReadyAt copy.0 (copy.1 ∷ []) more sessions) copies

-- the sessions after each copy was published by its session, one after another
abbrev pub placed_all : List (ℕ × Message) → List BrokerSession → List BrokerSession
placed_all [] sessions = sessions
placed_all (copy ∷ rest) sessions = placed_all rest (placed_at copy.0 copy.1 sessions)

-- the acts that report the copies
abbrev pub placed_acts : List (ℕ × Message) → List Act
placed_acts copies = map (λ copy. acts.Placed copy.0 copy.1) copies

-- ---- copies that are missed

-- the copy has QoS 1 or 2, and its client's session has no room for it (2.3.1)
abbrev pub is_short : HubConfig → List BrokerSession → ℕ × Message → Bool
is_short config sessions copy =
    has_identifier copy.1.qos
    && (is_full config.capacity (end_of copy.0 (sessions_of sessions)).book
    || not (leaves config.most_stored (stored_bytes (end_of copy.0 (sessions_of sessions)).book) (message_bytes copy.1)))

-- the copy has QoS 0, and the pending output of its client may not have its bytes after this number
-- of bytes is queued
abbrev pub is_cut : Option ℕ → ℕ → List BrokerSession → ℕ × Message → Bool
is_cut most_waiting queued sessions copy =
    not (leaves most_waiting (queued + length (output_of copy.0 sessions)) (publish_bytes copy.1)) && not (has_identifier copy.1.qos)

-- a copy that is due is missed; `queued`: the number of bytes that are queued for each client first
abbrev pub misses : HubConfig → (ℕ → ℕ) → List BrokerSession → ℕ × Message → Bool
misses config queued sessions copy =
    (drops_copies config.when_full && is_short config sessions copy) || is_cut config.most_waiting (queued copy.0) sessions copy

-- the copies that are placed, if these are due one after another
abbrev pub kept_copies : HubConfig → (ℕ → ℕ) → List (ℕ × Message) → List BrokerSession → List (ℕ × Message)
kept_copies config queued [] sessions = []
kept_copies config queued (copy ∷ rest) sessions =
    if misses config queued sessions copy then kept_copies config queued rest sessions
    else copy ∷ kept_copies config queued rest (placed_at copy.0 copy.1 sessions)

-- the acts that report them as placed or missed
abbrev pub settled_acts : HubConfig → (ℕ → ℕ) → List (ℕ × Message) → List BrokerSession → List Act
settled_acts config queued [] sessions = []
settled_acts config queued (copy ∷ rest) sessions =
    if misses config queued sessions copy then acts.Missed copy.0 copy.1 ∷ settled_acts config queued rest sessions
    else acts.Placed copy.0 copy.1 ∷ settled_acts config queued rest (placed_at copy.0 copy.1 sessions)

-- the messages for a connected client that are placed one after another, in this space
abbrev pub first_fitting : CopyRules → Space → List Message → List Message
first_fitting rules space [] = []
first_fitting rules space (message ∷ rest) =
    if skips rules space message then first_fitting rules space rest else message ∷ first_fitting rules (space_after message space) rest

-- the acts that report them and the other ones
abbrev pub fitting_acts : CopyRules → ℕ → Space → List Message → List Act
fitting_acts rules key space [] = []
fitting_acts rules key space (message ∷ rest) =
    if skips rules space message then acts.Missed key message ∷ fitting_acts rules key space rest
    else acts.Placed key message ∷ fitting_acts rules key (space_after message space) rest

-- the sender's book of each client's end is the same
abbrev pub HaveSameBooks : List BrokerSession → List BrokerSession → Type 0
HaveSameBooks old new = (key : ℕ) → (end_of key (sessions_of new)).book ≡ (end_of key (sessions_of old)).book

-- the answer was queued for its client, and nothing for the others
abbrev pub HaveQueued : Option QueuedAnswer → List BrokerSession → List BrokerSession → Type 0
HaveQueued answer old new = (key : ℕ) → length (output_of key new) ≡ answer_for answer key + length (output_of key old)

-- the client of each copy of QoS 0 is connected (4.3.1)
abbrev pub AreHeard : List HubConnection → List (ℕ × Message) → Type 0
AreHeard connections copies = AllByRecursion (λ copy. has_identifier copy.1.qos ≡ false → is_some (up_on copy.0 connections) ≡ true) copies

-- Copies that are due are settled: which of them are placed, and the acts that report all of them.
pub record Settles (config : HubConfig) (queued : ℕ → ℕ) (sessions : List BrokerSession) (due placed : List (ℕ × Message)) (report : List Act) : Type 0 where
  pub kept : placed ≡ kept_copies config queued due sessions
  pub says : report ≡ settled_acts config queued due sessions

-- Tables in which copies can be placed: keys ascend, names of connections are distinct, and each
-- client is connected on at most one connection.
pub record CanPlace (tables : HubTables) : Type 0 where
  pub ascending : AreAscending tables.sessions.list
  pub apart : AreLinesApart tables.connections.connections

-- the tables with other sessions
abbrev pub with_list : List BrokerSession → HubTables → HubTables
with_list sessions tables = record tables { sessions = record tables.sessions { list = sessions } }

-- the tables with other retained messages
abbrev pub with_retained : List Message → HubTables → HubTables
with_retained messages tables = record tables { retained = record tables.retained { messages = messages } }
