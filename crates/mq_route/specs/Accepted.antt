-- Each copy of QoS 1 or 2 that is not missed is accepted by a sender's book (2.3.1, 4.3).
use Rattle.std.specs.Prelude.{◌≡◌, ℕ, ◌≤◌, ◌==◌, Bool, true, false, not, ◌&&◌, List, [], ◌∷◌, ◌++◌, max, Option, Some, None, if◌then◌else◌}
use Rattle.std.specs.List.{list_any}
use Rattle.mq_packet.specs.declared.connack.ConnAck.TheVariants as connacks
use Rattle.mq_packet.specs.declared.connack.RefusalCode.{RefusalCode}
use Rattle.mq_packet.specs.declared.connect.Will.{Will}
use Rattle.mq_packet.specs.declared.message.Message.{Message}
use Rattle.mq_packet.specs.declared.packet.Packet.{Packet}
use Rattle.mq_packet.specs.declared.packet.Packet.TheVariants as packets
use Rattle.mq_decode.specs.Limits.{Bounds}
use Rattle.mq_flow.specs.Next.{next_identifier}
use Rattle.mq_flow.specs.Sender.{IsFirstFree, is_full, accept}
use Rattle.mq_flow.specs.Stored.{message_bytes, stored_bytes}
use Rattle.mq_end.specs.declared.happening.Happening.{Happening}
use Rattle.mq_end.specs.declared.happening.Happening.TheVariants as happens
use Rattle.mq_end.specs.declared.reason.CloseReason.{CloseReason}
use Rattle.mq_end.specs.declared.reason.CloseReason.TheVariants as reasons
use Rattle.mq_end.specs.Both.{has_identifier}
use Rattle.mq_end.specs.End.{End, Reply, is_up}
use Rattle.mq_end.specs.Laws.{IsSoundEnd}
use Rattle.mq_end.specs.Server.{server_gets, subacks}
use Rattle.mq_route.specs.declared.act.Act.{Act}
use Rattle.mq_route.specs.declared.act.Act.TheVariants as acts
use Rattle.mq_route.specs.declared.close.HubClose.{HubClose}
use Rattle.mq_route.specs.declared.close.HubClose.TheVariants.{Own, TargetFull, TakenOver, PeerEnded, TooManyMatches}
use Rattle.mq_route.specs.declared.config.HubConfig.{HubConfig}
use Rattle.mq_route.specs.declared.config.WhenFull.TheVariants.{ClosePublisher}
use Rattle.mq_route.specs.declared.conn.Conn.{Conn}
use Rattle.mq_route.specs.declared.event.HubEvent.{HubEvent}
use Rattle.mq_route.specs.declared.event.HubEvent.TheVariants.{Opened, Bytes, Ended, Tick, Collect}
use Rattle.mq_route.specs.declared.reply.HubReply.{HubReply}
use Rattle.mq_route.specs.declared.connection_state.ConnectionState.{ConnectionState}
use Rattle.mq_route.specs.declared.connection_state.ConnectionState.TheVariants.{AwaitingConnect, ConnectedAs, Closed}
use Rattle.mq_route.specs.Copies.{will_message, kept}
use Rattle.mq_route.specs.Routed.{marked}
use Rattle.mq_route.specs.Hub.{HubState, HubConnection, new_hub, stage_of, is_open, held_on, up_on, key_of, end_of, copies_of}
use Rattle.mq_route.specs.Welcome.{client_of, refusal}
use Rattle.mq_route.specs.Work.{Work, begin, said, put_on, does, leaves, is_missed, enqueue, have_room, will_after, close, subscribed, retained_copies}
use Rattle.mq_route.specs.Arrives.{Growth, granted, due, is_too_broad, answers, touched_on, on_packet, broken}
use Rattle.mq_route.specs.Step.{holding, OnBytes, Arrives, Waits, Breaks, Starves, LetsGo, OnTick, Done, InTime, Late, Does, event_refusal, expire, with_clock}
use Rattle.mq_route.specs.Runs.{Episode, Follows}
use Rattle.mq_route.specs.Dropped.{when_over}

-- ---- a copy

-- A copy is due for this client in this work: it is placed, or the client misses it.
pub record Placing : Type 0 where
  pub key : ℕ
  pub message : Message
  pub at : Work

-- The client has a session, and its book has an identifier free and room for the message's bytes.
-- The next identifier is the first free one after the last assigned identifier (2.3.1). The book
-- accepts the message with this identifier (4.3).
pub record IsAccept (placing : Placing) : Type 0 where
  pub there : list_any (λ s. s.key == placing.key) placing.at.hub.sessions ≡ true
  pub room : is_full placing.at.hub.config.capacity (end_of placing.key placing.at.hub.sessions).book ≡ false
  pub bytes : leaves placing.at.hub.config.most_stored (stored_bytes (end_of placing.key placing.at.hub.sessions).book) (message_bytes placing.message) ≡ true
  pub first : let end = end_of placing.key placing.at.hub.sessions in IsFirstFree end.last end.book (next_identifier end.last end.book)
  pub accepts : let end = end_of placing.key placing.at.hub.sessions in
      let identifier = next_identifier end.last end.book in
      end_of placing.key (enqueue placing.key placing.message placing.at).hub.sessions ≡ record end { book = accept identifier placing.message (is_up end.state) end.book; last = identifier }

-- the client misses the copy
abbrev pub is_miss : Placing → Bool
is_miss placing = is_missed placing.key placing.message placing.at.hub

-- the client misses the copy, which has QoS 1 or 2
abbrev pub is_stored_miss : Placing → Bool
is_stored_miss placing = is_miss placing && has_identifier placing.message.qos

-- the client misses the copy, which has QoS 0
abbrev pub is_plain_miss : Placing → Bool
is_plain_miss placing = is_miss placing && not (has_identifier placing.message.qos)

-- each copy of QoS 1 or 2 that is not missed is accepted
abbrev pub AreAccepts : List Placing → Type 0
AreAccepts [] = Unit {0}
AreAccepts (placing ∷ later) = (is_miss placing ≡ false → has_identifier placing.message.qos ≡ true → IsAccept placing) × AreAccepts later

-- the messages of one client, each with whether it is missed
abbrev pub marked_for : ℕ → List Placing → List (Bool × Message)
marked_for client [] = []
marked_for client (placing ∷ later) =
    if placing.key == client then (is_miss placing, placing.message) ∷ marked_for client later else marked_for client later

-- ---- the copies that a step makes due, along the definitions of Work, Arrives and Step

-- the copies of a list
abbrev pub placings : List (ℕ × Message) → Work → List Placing
placings [] work = []
placings (first ∷ rest) work = record { key = first.0; message = first.1; at = work } ∷ placings rest (enqueue first.0 first.1 work)

-- the copies of a published message, after its act
abbrev pub in_share : Act → Message → Work → List Placing
in_share act message work =
    placings (copies_of message work.hub) (said act (record work { hub = record work.hub { retained = kept message work.hub.retained } }))

-- the copies of a will that is published (3.1.2.5)
abbrev pub in_will : ℕ → Option Will → Bool → Work → List Placing
in_will key None fits work = []
in_will key (Some will) fits work =
    if fits && have_room (copies_of (will_message will) work.hub) work.hub
    then in_share (acts.Will key (will_message will)) (will_message will) work
    else []

-- the copies of the will that a close publishes; a client has a will only while it is connected
abbrev pub in_leaving : Conn → HubClose → Bool → ConnectionState → Work → List Placing
in_leaving conn why fits (ConnectedAs key terms last_activity) work =
    in_will key (will_after why terms.will) fits (when_over conn why key terms work)
in_leaving conn why fits AwaitingConnect work = []
in_leaving conn why fits Closed work = []

abbrev pub in_close : Conn → HubClose → Bool → Work → List Placing
in_close conn why fits work = in_leaving conn why fits (stage_of conn work.hub.connections) work

-- the copies that an end's report makes due: of a published message (3.3.5), and of retained
-- messages (3.3.1.3)
abbrev pub in_answer : ℕ → Happening → Work → List Placing
in_answer key (happens.Handed message) work = in_share (acts.Took key message) message work
in_answer key (happens.Subscribe identifier requests) work =
    placings (retained_copies key requests work.hub.retained) (does key (subacks identifier (granted requests)) (subscribed key requests work))
in_answer key other work = []

abbrev pub in_answers : Conn → ℕ → List Happening → Work → List Placing
in_answers conn key [] work = []
in_answers conn key (first ∷ later) work = in_answer key first work ++ in_answers conn key later (answers conn key first work)

-- ---- a step

-- a packet on a connected connection: its end closes the connection, a session has no room, or the
-- due copies are placed
abbrev pub in_replies : Conn → ℕ → (End → Reply) → Option CloseReason → Bool → Work → List Placing
in_replies conn key move (Some reason) fits work =
    in_close conn (Own reason) fits (put_on conn (move (end_of key work.hub.sessions)).out work)
in_replies conn key move None fits work =
    if have_room (due key work.hub (move (end_of key work.hub.sessions)).happenings) work.hub
    then in_answers conn key (move (end_of key work.hub.sessions)).happenings (does key move work)
    else in_close conn TargetFull fits work

-- another connection of the client is closed (3.1.4)
abbrev pub in_take_over : Option Conn → Bool → Work → List Placing
in_take_over None fits work = []
in_take_over (Some old) fits work = in_close old TakenOver fits work

-- a CONNECT is refused, or closes another connection of its client
abbrev pub in_welcome : Conn → Option ℕ → Option RefusalCode → Bool → Work → List Placing
in_welcome conn stands (Some code) fits work =
    in_close conn (Own (reasons.Refused code)) fits (put_on conn (packets.ConnAck (connacks.Refused code) ∷ []) work)
in_welcome conn None None fits work = []
in_welcome conn (Some key) None fits work = in_take_over (up_on key work.hub.connections) fits work

-- the first packet of a connection
abbrev pub in_first : Conn → Packet → Bool → Work → List Placing
in_first conn (packets.Connect connect) fits work =
    in_welcome conn (key_of (client_of connect work.hub.sessions) work.hub.sessions) (refusal connect work.hub) fits work
in_first conn packet fits work = in_close conn (Own reasons.Unexpected) fits work

-- a packet in each state of its connection
abbrev pub in_packet : Conn → Packet → Bool → ConnectionState → Work → List Placing
in_packet conn packet fits AwaitingConnect work = in_first conn packet fits work
in_packet conn packet fits (ConnectedAs key terms last_activity) work =
    if is_too_broad packet work.hub then in_close conn TooManyMatches fits work
    else in_replies conn key (server_gets packet) (server_gets packet (end_of key work.hub.sessions)).close fits work
in_packet conn packet fits Closed work = []

-- a packet, with memory for it or without
abbrev pub in_on_packet : Conn → Packet → Growth → Work → List Placing
in_on_packet conn packet growth work =
    if growth.fits then in_packet conn packet growth.will_fits (stage_of conn work.hub.connections) (touched_on conn work)
    else in_close conn (Own reasons.Memory) growth.will_fits work

-- bytes that are malformed
abbrev pub in_breaks : Conn → Option CloseReason → Bool → Work → List Placing
in_breaks conn None fits work = []
in_breaks conn (Some reason) fits work = in_close conn (Own reason) fits work

-- the copies that these bytes place
abbrev pub in_on_bytes : (limits : Bounds) (conn : Conn) (bytes : List ℕ) (start stop : Work) → OnBytes limits conn bytes start stop → List Placing
in_on_bytes limits conn bytes start stop (Arrives packet first rest growth work last on reads more) =
    in_on_packet conn packet growth work ++ in_on_bytes limits conn rest (on_packet conn packet growth work) last more
in_on_bytes limits conn bytes start stop (Waits rest work on pending) = []
in_on_bytes limits conn bytes start stop (Breaks rest fault fits work on faulty) =
    in_breaks conn (broken conn fault work).close fits (put_on conn (broken conn fault work).out work)
in_on_bytes limits conn bytes start stop (Starves rest fits work on some) = in_close conn (Own reasons.Memory) fits work
in_on_bytes limits conn bytes start stop (LetsGo rest work closed) = []

-- the copies that a tick places
abbrev pub in_on_tick : (within : Option ℕ) (now : ℕ) (connections : List HubConnection) (start stop : Work) → OnTick within now connections start stop → List Placing
in_on_tick within now connections start stop (Done work) = []
in_on_tick within now connections start stop (InTime connection rest work last soon more) = in_on_tick within now rest work last more
in_on_tick within now connections start stop (Late connection rest why fits work last late more) =
    in_close connection.conn why fits work ++ in_on_tick within now rest (close connection.conn why fits work) last more

-- the copies that a step places
abbrev pub in_step : (hub : HubState) (event : HubEvent) (reply : HubReply) (work : Work) → Does hub event reply work → List Placing
in_step hub (Opened conn) reply work does = []
in_step hub (Bytes conn piece) reply work does =
    in_on_bytes hub.config.limits conn (held_on conn hub.connections ++ piece) (holding conn [] (begin hub)) work does.0
in_step hub (Ended conn) reply work does =
    if is_open (stage_of conn hub.connections) then in_close conn PeerEnded does.0 (begin hub) else []
in_step hub (Tick now) reply work does = in_on_tick hub.config.connect_within (max hub.clock now) hub.connections (expire (with_clock now hub)) work does.0
in_step hub (Collect conn) reply work does = []

pub record AcceptLaws : Type 0 where
  -- at each time in a run, the identifiers in use of a client are from 1 to 65,535, distinct, and
  -- at most the capacity
  pub books : (config : HubConfig) → config.capacity ≤ 65535 → (episodes : List Episode) (hub : HubState) → Follows (new_hub config) episodes hub
      → (key : ℕ) → IsSoundEnd config.capacity (end_of key hub.sessions)
  -- in each step of a run, each copy of QoS 1 or 2 that is due and not missed is accepted
  pub accepts : (config : HubConfig) → config.capacity ≤ 65535 → (before : List Episode) (hub : HubState) → Follows (new_hub config) before hub
      → (event : HubEvent) (reply : HubReply) (work : Work) → event_refusal event hub ≡ None → (does : Does hub event reply work) → AreAccepts (in_step hub event reply work does)
  -- under ClosePublisher, no copy of QoS 1 or 2 is missed
  pub none_missed : (config : HubConfig) → config.when_full ≡ ClosePublisher → config.capacity ≤ 65535 → (before : List Episode) (hub : HubState) → Follows (new_hub config) before hub
      → (event : HubEvent) (reply : HubReply) (work : Work) → event_refusal event hub ≡ None → (does : Does hub event reply work)
      → list_any is_stored_miss (in_step hub event reply work does) ≡ false
  -- without a limit on pending output, no copy of QoS 0 is missed
  pub none_cut : (config : HubConfig) → config.most_waiting ≡ None → config.capacity ≤ 65535 → (before : List Episode) (hub : HubState) → Follows (new_hub config) before hub
      → (event : HubEvent) (reply : HubReply) (work : Work) → event_refusal event hub ≡ None → (does : Does hub event reply work)
      → list_any is_plain_miss (in_step hub event reply work does) ≡ false
  -- at each time in a run, no client's session stores more bytes than the limit
  pub stored : (config : HubConfig) (most : ℕ) → config.most_stored ≡ Some most → config.capacity ≤ 65535 → (episodes : List Episode) (hub : HubState) → Follows (new_hub config) episodes hub
      → (key : ℕ) → stored_bytes (end_of key hub.sessions).book ≤ most
  -- these copies are those that the acts of the step report as placed or missed, in order
  pub marked_are : (config : HubConfig) → config.capacity ≤ 65535 → (before : List Episode) (hub : HubState) → Follows (new_hub config) before hub
      → (event : HubEvent) (reply : HubReply) (work : Work) → event_refusal event hub ≡ None → (does : Does hub event reply work)
      → (client : ℕ) → marked client reply.acts ≡ marked_for client (in_step hub event reply work does)
