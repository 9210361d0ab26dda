-- The moves of a session's end at a packet, as far as the broker depends on them.
use Rattle.std.proofs.Common.{◌≡◌, ℕ, Bool, true, false, not, ◌&&◌, cond, List, [], ◌∷◌, ◌++◌, length, map, Option, Some, None, refl, sym, subst, ◌∙◌, eqb}
use Rattle.std.proofs.lemmas.Bool.{cond-false, cond_both}
use Rattle.std.specs.List.{list_all}
use Rattle.mq_topic.specs.declared.qos.Qos.{Qos}
use Rattle.mq_topic.specs.declared.qos.Qos.TheVariants.{Q0, Q1, Q2}
use Rattle.mq_packet.specs.declared.connack.ConnAck.TheVariants as connacks
use Rattle.mq_packet.specs.declared.connack.RefusalCode.TheVariants.{IdentifierRejected}
use Rattle.mq_packet.specs.declared.connect.Connect.{Connect}
use Rattle.mq_packet.specs.declared.message.Message.{Message}
use Rattle.mq_packet.specs.declared.packet.Packet.{Packet}
use Rattle.mq_packet.specs.declared.packet.Packet.TheVariants as packets
use Rattle.mq_packet.specs.declared.publish.Delivery.{Delivery}
use Rattle.mq_decode.specs.declared.fault.DecodeFault.{DecodeFault}
use Rattle.mq_flow.specs.declared.entry.SenderEntry.{SenderEntry}
use Rattle.mq_flow.specs.Receiver.{is_new}
use Rattle.mq_flow.specs.Sender.{is_awaited, publish_packet}
use Rattle.mq_flow.specs.Window.{fits_window}
use Rattle.mq_end.specs.declared.happening.Happening.{Happening}
use Rattle.mq_end.specs.declared.happening.Happening.TheVariants as happens
use Rattle.mq_end.specs.declared.reason.CloseReason.{CloseReason}
use Rattle.mq_end.specs.declared.reason.CloseReason.TheVariants as reasons
use Rattle.mq_end.specs.declared.state.State.{State}
use Rattle.mq_end.specs.declared.state.State.TheVariants.{Disconnected, Connecting, Connected}
use Rattle.mq_end.specs.End.{End, Reply, closes, renewed, becomes_connected, is_up}
use Rattle.mq_end.specs.Both as both
use Rattle.mq_end.specs.Both.{publish_gets, flow_gets, publishes_at}
use Rattle.mq_end.specs.Server.{opens, refuses, level_refused, connect_gets, server_open_gets, server_gets, server_gets_in, server_up_gets}
use Rattle.mq_end.specs.State.{is_level, server_faulted}
use Rattle.mq_route.specs.Hub.{for_key}
use Rattle.mq_route.specs.Arrives.{greeting}
use Rattle.mq_route.specs.Laws.{is_no_plain_publish}
use Rattle.mq_route.specs.Taken.{hands, stores, handed_by, book_after}

-- two ends agree except for their outgoing packets
abbrev pub Alike : End → End → Type 0
Alike e f = (e.state ≡ f.state) × (e.clean ≡ f.clean) × (e.received ≡ f.received)

pub publishes_alike : (q : Qos) (i : ℕ) (m : Message) (e : End) → Alike (publishes_at q i m e).end e
publishes_alike Q0 i m e = (refl, refl, refl)
publishes_alike q i m e = (refl, refl, refl)

-- ---- packets that are no copies

-- none of these packets is a PUBLISH of QoS 0
abbrev pub AreAnswers : List Packet → Type 0
AreAnswers ps = list_all is_no_plain_publish ps ≡ true

released_answers : (ids : List ℕ) (ps : List Packet) → AreAnswers ps → AreAnswers (map packets.PubRel ids ++ ps)
released_answers [] ps all = all
released_answers (i ∷ ids) ps all = released_answers ids ps all

entries_answers : (es : List SenderEntry) → AreAnswers (map (λ e. publish_packet e.id e.sent e.message) es)
entries_answers [] = refl
entries_answers (e ∷ es) = entries_answers es

publish_answers : (q : Qos) (d : Option Delivery) (m : Message) (e : End) → AreAnswers (publish_gets q d m e).out
publish_answers Q0 None m e = refl
publish_answers Q1 (Some d) m e = refl
publish_answers Q2 (Some d) m e = cond_both (fits_window e.window d.id e.received) (both.stores d.id m e) (closes reasons.Window e) (λ r. AreAnswers r.out) (λ t. refl) (λ f. refl)
publish_answers q d m e = refl

flow_answers : (p : Packet) (e : End) → AreAnswers (flow_gets p e).out
flow_answers (packets.Publish p) e = publish_answers p.message.qos p.delivery p.message e
flow_answers (packets.PubRec i) e = cond_both (is_awaited Q2 i e.book.entries) (packets.PubRel i ∷ []) [] AreAnswers (λ t. refl) (λ f. refl)
flow_answers p e = refl

connect_answers : (c : Connect) (e : End) → AreAnswers (connect_gets c e).out
connect_answers c e =
    let present = not c.clean_session && e.known in
    let f = record (renewed c.clean_session e) { keep_alive = c.keep_alive } in
    cond_both (not c.clean_session && eqb (length c.client_id) 0) (refuses IdentifierRejected e) (becomes_connected (packets.ConnAck (connacks.Accepted present) ∷ []) present f)
    (λ r. AreAnswers r.out) (λ t. refl) (λ t. released_answers f.book.released (map (λ e. publish_packet e.id e.sent e.message) f.book.entries) (entries_answers f.book.entries))

open_answers : (p : Packet) (e : End) → AreAnswers (server_open_gets p e).out
open_answers (packets.Connect c) e = connect_answers c e
open_answers p e = refl

up_answers : (p : Packet) (e : End) → AreAnswers (server_up_gets p e).out
up_answers (packets.Subscribe i requests) e = refl
up_answers (packets.Unsubscribe i filters) e = refl
up_answers packets.PingReq e = refl
up_answers packets.Disconnect e = refl
up_answers p e = flow_answers p e

in_answers : (st : State) (p : Packet) (e : End) → AreAnswers (server_gets_in st p e).out
in_answers Disconnected p e = refl
in_answers Connecting p e = open_answers p e
in_answers Connected p e = up_answers p e

-- a packet is answered by no PUBLISH of QoS 0
pub gets_answers : (p : Packet) (e : End) → AreAnswers (server_gets p e).out
gets_answers p e = in_answers e.state p e

-- malformed bytes are answered by none either
pub faulted_answers : (fault : DecodeFault) (e : End) → AreAnswers (server_faulted fault e).out
faulted_answers fault e =
    cond_both (not (is_up e.state) && is_level fault.kind) (level_refused e) (closes (reasons.Fault fault) e) (λ r. AreAnswers r.out) (λ t. refl) (λ f. refl)

-- ---- reports

-- the messages of a client that a report delivers
abbrev pub taking : ℕ → Happening → List (ℕ × Message)
taking key (happens.Handed m) = (key, m) ∷ []
taking key told = []

abbrev pub takings : ℕ → List Happening → List (ℕ × Message)
takings key [] = []
takings key (told ∷ later) = taking key told ++ takings key later

-- the report is not that the client is connected
abbrev pub NoUp : Happening → Type 0
NoUp (happens.Up present) = ⊥
NoUp told = Unit {0}

abbrev pub NoUps : List Happening → Type 0
NoUps [] = Unit {0}
NoUps (told ∷ later) = NoUp told × NoUps later

-- ---- a connected end takes a packet and stays connected

pub record GoesOn (key : ℕ) (p : Packet) (e : End) (r : Reply) : Type 0 where
  pub state : r.end.state ≡ e.state
  pub clean : r.end.clean ≡ e.clean
  pub received : r.end.received ≡ book_after p e.received
  pub handed : takings key r.happenings ≡ for_key key (handed_by p e.received)
  pub told : NoUps r.happenings

shut : {A : Type 0} (r : CloseReason) → ◌≡◌ {A = Option CloseReason} (Some r) None → A
shut r h = absurd (clash r h)
  where
    clash : (r : CloseReason) → ◌≡◌ {A = Option CloseReason} (Some r) None → ⊥
    clash r h = cc

handed_if : (key : ℕ) (b : Bool) (m : Message) → takings key (cond b (happens.Handed m ∷ []) []) ≡ for_key key (cond b (m ∷ []) [])
handed_if key true m = refl
handed_if key false m = refl

told_if : (b : Bool) (m : Message) → NoUps (cond b (happens.Handed m ∷ []) [])
told_if true m = (tt, tt)
told_if false m = tt

module _ (key : ℕ) where
  publish_goes : (q : Qos) (d : Option Delivery) (m : Message) (e : End) → (publish_gets q d m e).close ≡ None
      → ((publish_gets q d m e).end.state ≡ e.state) × ((publish_gets q d m e).end.clean ≡ e.clean) × ((publish_gets q d m e).end.received ≡ stores q d e.received)
      × (takings key (publish_gets q d m e).happenings ≡ for_key key (hands q d m e.received)) × NoUps (publish_gets q d m e).happenings
  publish_goes Q0 None m e h = (refl, refl, refl, refl, (tt, tt))
  publish_goes Q1 (Some d) m e h = (refl, refl, refl, refl, (tt, tt))
  publish_goes Q2 (Some d) m e h = within (fits_window e.window d.id e.received) h
    where
      -- the result, by whether the packet fits the receive window
      comes : Bool → Reply
      comes fits = cond fits (both.stores d.id m e) (closes reasons.Window e)

      within : (fits : Bool) → (comes fits).close ≡ None
          → ((comes fits).end.state ≡ e.state) × ((comes fits).end.clean ≡ e.clean) × ((comes fits).end.received ≡ stores Q2 (Some d) e.received)
          × (takings key (comes fits).happenings ≡ for_key key (hands Q2 (Some d) m e.received)) × NoUps (comes fits).happenings
      within true h = (refl, refl, refl, handed_if key (is_new d.id e.received) m, told_if (is_new d.id e.received) m)
      within false h = shut _ h
  publish_goes q d m e h = shut _ h

  flow_goes : (p : Packet) (e : End) → (flow_gets p e).close ≡ None → GoesOn key p e (flow_gets p e)
  flow_goes (packets.Publish p) e h =
      let g = publish_goes p.message.qos p.delivery p.message e h in
      record { state = g.0; clean = g.1; received = g.2; handed = g.3; told = g.4 }
  flow_goes (packets.PubAck i) e h = record { state = refl; clean = refl; received = refl; handed = refl; told = tt }
  flow_goes (packets.PubRec i) e h = record { state = refl; clean = refl; received = refl; handed = refl; told = tt }
  flow_goes (packets.PubRel i) e h = record { state = refl; clean = refl; received = refl; handed = refl; told = tt }
  flow_goes (packets.PubComp i) e h = record { state = refl; clean = refl; received = refl; handed = refl; told = tt }
  flow_goes p e h = shut _ h

  up_goes : (p : Packet) (e : End) → (server_up_gets p e).close ≡ None → GoesOn key p e (server_up_gets p e)
  up_goes (packets.Subscribe i requests) e h = record { state = refl; clean = refl; received = refl; handed = refl; told = (tt, tt) }
  up_goes (packets.Unsubscribe i filters) e h = record { state = refl; clean = refl; received = refl; handed = refl; told = (tt, tt) }
  up_goes packets.PingReq e h = record { state = refl; clean = refl; received = refl; handed = refl; told = tt }
  up_goes packets.Disconnect e h = shut _ h
  up_goes p e h = flow_goes p e h

  pub stays_up : (p : Packet) (e : End) → e.state ≡ Connected → (server_gets p e).close ≡ None → GoesOn key p e (server_gets p e)
  stays_up p e up = subst (λ (s : State). (server_gets_in s p e).close ≡ None → GoesOn key p e (server_gets_in s p e)) (sym up) (up_goes p e)

-- ---- an accepted CONNECT

pub record Greets (c : Connect) (e : End) (r : Reply) : Type 0 where
  pub state : r.end.state ≡ Connected
  pub clean : r.end.clean ≡ c.clean_session
  pub received : r.end.received ≡ e.received
  pub present : Bool
  pub told : r.happenings ≡ happens.Up present ∷ []

-- the end that an accepted CONNECT leaves, apart from clean session
greeted : (c : Connect) (e : End) (clean : Bool) → c.clean_session ≡ clean → (clean ≡ true → e.received ≡ (renewed true e).received) → (renewed clean e).received ≡ e.received
greeted c e true same new = sym (new refl)
greeted c e false same new = refl

over_received : (e : End) → e.clean ≡ false → (opens e).end.received ≡ e.received
over_received e h = cond-false e.clean _ e.received h

pub greets : (c : Connect) (e : End) → (not c.clean_session && eqb (length c.client_id) 0) ≡ false → e.clean ≡ false → (c.clean_session ≡ true → e.received ≡ (renewed true e).received)
    → Greets c e (greeting c e)
greets c e accepted idle new =
    let f = (opens e).end in
    let present = not c.clean_session && f.known in
    let r = becomes_connected (packets.ConnAck (connacks.Accepted present) ∷ []) present (record (renewed c.clean_session f) { keep_alive = c.keep_alive }) in
    let same : greeting c e ≡ r = cond-false (not c.clean_session && eqb (length c.client_id) 0) (refuses IdentifierRejected f) r accepted in
    subst (Greets c e) (sym same)
    (record {
      state = refl;
      clean = refl;
      received = greeted c f c.clean_session refl (λ clean. over_received e idle ∙ new clean) ∙ over_received e idle;
      present = present;
      told = refl;
    })
