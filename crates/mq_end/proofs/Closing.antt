-- Whatever closes a connection, the session is as it was just before.
use Rattle.std.proofs.Common.{◌≡◌, ℕ, Bool, true, false, not, ◌&&◌, eqb, Option, Some, None, List, [], ◌∷◌, length, refl, sym, ap, subst}
use Rattle.std.proofs.lemmas.Bool.{cond_both}
use Rattle.mq_topic.specs.declared.qos.Qos.{Qos}
use Rattle.mq_topic.specs.declared.qos.Qos.TheVariants.{Q0, Q1, Q2}
use Rattle.mq_packet.specs.declared.connect.Connect.{Connect}
use Rattle.mq_packet.specs.declared.connack.ConnAck.{ConnAck}
use Rattle.mq_packet.specs.declared.connack.ConnAck.TheVariants as connacks
use Rattle.mq_packet.specs.declared.connack.RefusalCode.TheVariants.{IdentifierRejected}
use Rattle.mq_packet.specs.declared.message.Message.{Message}
use Rattle.mq_packet.specs.declared.publish.Delivery.{Delivery}
use Rattle.mq_packet.specs.declared.packet.Packet.{Packet}
use Rattle.mq_packet.specs.declared.packet.Packet.TheVariants as packets
use Rattle.mq_flow.specs.Sender.{blank_book, no_claims, release, awaits_suback, awaits_unsuback}
use Rattle.mq_flow.specs.Receiver.{none_received}
use Rattle.mq_flow.specs.Window.{fits_window}
use Rattle.mq_end.specs.declared.state.State.{State}
use Rattle.mq_end.specs.declared.state.State.TheVariants.{Disconnected, Connecting, Connected}
use Rattle.mq_end.specs.declared.happening.Happening.TheVariants as happens
use Rattle.mq_end.specs.declared.reason.CloseReason.{CloseReason}
use Rattle.mq_end.specs.declared.reason.CloseReason.TheVariants as reasons
use Rattle.mq_end.specs.End.{End, Reply, silent, reports_event, over, closes, becomes_connected, followed, is_up}
use Rattle.mq_end.specs.Both.{stores, publish_gets, flow_gets}
use Rattle.mq_end.specs.Client.{connack_gets, client_open_gets, client_up_gets, client_gets_in, client_gets_all}
use Rattle.mq_end.specs.Server.{connect_gets, refuses, server_open_gets, server_up_gets, server_gets_in, server_gets_all}
use Rattle.mq_end.specs.KeepAlive.{is_late, server_ticks}
use Rattle.mq_end.specs.Laws.{ClosingLaws}

-- If the reply closes, the connection of the end is over.
abbrev pub EndsOver : End → Reply → Type 0
EndsOver e r = (reason : CloseReason) → r.close ≡ Some reason → r.end ≡ over e

stays : (e f : End) (reason : CloseReason) → ◌≡◌ {A = Option CloseReason} None (Some reason) → f ≡ over e
stays e f reason h = absurd (not_none reason h)
  where
    not_none : (reason : CloseReason) → ◌≡◌ {A = Option CloseReason} None (Some reason) → ⊥
    not_none reason h = cc

publish_over : (q : Qos) (d : Option Delivery) (m : Message) (e : End) → EndsOver e (publish_gets q d m e)
publish_over Q0 None m e = λ r h. stays e _ r h
publish_over Q1 (Some d) m e = λ r h. stays e _ r h
publish_over Q2 (Some d) m e = cond_both (fits_window e.window d.id e.received) (stores d.id m e) (closes reasons.Window e) (EndsOver e) (λ t r h. stays e _ r h) (λ f r h. refl)
publish_over q d m e = λ r h. refl

flow_over : (p : Packet) (e : End) → EndsOver e (flow_gets p e)
flow_over (packets.Publish p) e = publish_over p.message.qos p.delivery p.message e
flow_over (packets.PubAck i) e = λ r h. stays e _ r h
flow_over (packets.PubRec i) e = λ r h. stays e _ r h
flow_over (packets.PubRel i) e = λ r h. stays e _ r h
flow_over (packets.PubComp i) e = λ r h. stays e _ r h
flow_over p e = λ r h. refl

connack_over : (a : ConnAck) (e : End) → EndsOver e (connack_gets a e)
connack_over (connacks.Refused code) e = λ r h. refl
connack_over (connacks.Accepted present) e =
    cond_both (e.clean && present) (closes reasons.Unexpected e) _ (EndsOver e) (λ t r h. refl)
    (λ f. cond_both (not e.clean && (e.known && not present)) (closes reasons.SessionLost e) (becomes_connected [] present e) (EndsOver e) (λ t r h. refl) (λ f r h. stays e _ r h))

client_open_over : (p : Packet) (e : End) → EndsOver e (client_open_gets p e)
client_open_over (packets.ConnAck a) e = connack_over a e
client_open_over p e = λ r h. refl

client_up_over : (p : Packet) (e : End) → EndsOver e (client_up_gets p e)
client_up_over (packets.SubAck i codes) e =
    cond_both (awaits_suback i (length codes) e.book) (reports_event (happens.SubAck i codes) (record e { book = release i e.book })) (closes reasons.Unexpected e) (EndsOver e) (λ t r h. stays e _ r h) (λ f r h. refl)
client_up_over (packets.UnsubAck i) e =
    cond_both (awaits_unsuback i e.book) (reports_event (happens.UnsubAck i) (record e { book = release i e.book })) (closes reasons.Unexpected e) (EndsOver e) (λ t r h. stays e _ r h) (λ f r h. refl)
client_up_over packets.PingResp e = λ r h. stays e _ r h
client_up_over p e = flow_over p e

client_over : (st : State) (p : Packet) (e : End) → EndsOver e (client_gets_in st p e)
client_over Disconnected p e = λ r h. stays e _ r h
client_over Connecting p e = client_open_over p e
client_over Connected p e = client_up_over p e

connect_over : (c : Connect) (e : End) → EndsOver e (connect_gets c e)
connect_over c e = cond_both (not c.clean_session && eqb (length c.client_id) 0) (refuses IdentifierRejected e) _ (EndsOver e) (λ t r h. refl) (λ f r h. stays e _ r h)

server_open_over : (p : Packet) (e : End) → EndsOver e (server_open_gets p e)
server_open_over (packets.Connect c) e = connect_over c e
server_open_over p e = λ r h. refl

server_up_over : (p : Packet) (e : End) → EndsOver e (server_up_gets p e)
server_up_over (packets.Subscribe i requests) e = λ r h. stays e _ r h
server_up_over (packets.Unsubscribe i filters) e = λ r h. stays e _ r h
server_up_over packets.PingReq e = λ r h. stays e _ r h
server_up_over packets.Disconnect e = λ r h. refl
server_up_over p e = flow_over p e

server_over : (st : State) (p : Packet) (e : End) → EndsOver e (server_gets_in st p e)
server_over Disconnected p e = λ r h. stays e _ r h
server_over Connecting p e = server_open_over p e
server_over Connected p e = server_up_over p e

late_over : (last now : ℕ) (e : End) → EndsOver e (server_ticks last now e)
late_over last now e = cond_both (is_up e.state && is_late last e.keep_alive now) (closes reasons.KeepAlive e) (silent e) (EndsOver e) (λ t r h. refl) (λ f r h. stays e _ r h)

over_keeps : (e : End) → e.clean ≡ false → ((over e).book ≡ no_claims e.book) × ((over e).received ≡ e.received) × ((over e).known ≡ e.known)
over_keeps e h =
    let P : Bool → Type 0 = λ c. ((over (record e { clean = c })).book ≡ no_claims e.book) × ((over (record e { clean = c })).received ≡ e.received) × ((over (record e { clean = c })).known ≡ e.known) in
    subst P (sym h) (refl, refl, refl)

over_discards : (e : End) → e.clean ≡ true → ((over e).book ≡ blank_book) × ((over e).received ≡ none_received) × ((over e).known ≡ false)
over_discards e h =
    let P : Bool → Type 0 = λ c. ((over (record e { clean = c })).book ≡ blank_book) × ((over (record e { clean = c })).received ≡ none_received) × ((over (record e { clean = c })).known ≡ false) in
    subst P (sym h) (refl, refl, refl)

client_closed : (ps : List Packet) (e : End) → client_gets_all ps (record e { state = Disconnected }) ≡ silent (record e { state = Disconnected })
client_closed [] e = refl
client_closed (p ∷ ps) e = ap (followed (silent (record e { state = Disconnected }))) (client_closed ps e)

server_closed : (ps : List Packet) (e : End) → server_gets_all ps (record e { state = Disconnected }) ≡ silent (record e { state = Disconnected })
server_closed [] e = refl
server_closed (p ∷ ps) e = ap (followed (silent (record e { state = Disconnected }))) (server_closed ps e)

client_ignores : (ps : List Packet) (e : End) → e.state ≡ Disconnected → client_gets_all ps e ≡ silent e
client_ignores ps e h = let P : State → Type 0 = λ st. client_gets_all ps (record e { state = st }) ≡ silent (record e { state = st }) in subst P (sym h) (client_closed ps e)

server_ignores : (ps : List Packet) (e : End) → e.state ≡ Disconnected → server_gets_all ps e ≡ silent e
server_ignores ps e h = let P : State → Type 0 = λ st. server_gets_all ps (record e { state = st }) ≡ silent (record e { state = st }) in subst P (sym h) (server_closed ps e)

pub laws : ClosingLaws
laws = record {
  client = λ p e. client_over e.state p e;
  server = λ p e. server_over e.state p e;
  level = λ e. refl;
  late = late_over;
  leave = λ e. refl;
  closed = λ e. refl;
  keeps = over_keeps;
  discards = over_discards;
  client_ignores = client_ignores;
  server_ignores = server_ignores;
}
