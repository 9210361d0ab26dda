-- Each packet leaves the receive window unchanged, and the stored identifiers within it.
use Rattle.std.proofs.Common.{Bool, true, false, not, ◌&&◌, eqb, Option, Some, None, List, [], ◌∷◌, ℕ, length, refl, sym, subst, ◌∙◌}
use Rattle.std.proofs.lemmas.Bool.{cond_both}
use Rattle.mq_topic.specs.declared.qos.Qos.{Qos}
use Rattle.mq_topic.specs.declared.qos.Qos.TheVariants.{Q0, Q1, Q2}
use Rattle.mq_packet.specs.declared.connect.Connect.{Connect}
use Rattle.mq_packet.specs.declared.connack.ConnAck.{ConnAck}
use Rattle.mq_packet.specs.declared.connack.ConnAck.TheVariants as connacks
use Rattle.mq_packet.specs.declared.connack.RefusalCode.TheVariants.{IdentifierRejected}
use Rattle.mq_packet.specs.declared.message.Message.{Message}
use Rattle.mq_packet.specs.declared.publish.Delivery.{Delivery}
use Rattle.mq_packet.specs.declared.packet.Packet.{Packet}
use Rattle.mq_packet.specs.declared.packet.Packet.TheVariants as packets
use Rattle.mq_decode.specs.Limits.{Bounds}
use Rattle.mq_decode.specs.declared.fault.DecodeFault.{DecodeFault}
use Rattle.mq_flow.specs.Sender.{release, awaits_suback, awaits_unsuback}
use Rattle.mq_flow.specs.Receiver.{none_received}
use Rattle.mq_flow.specs.Window.{fits_window, IsWithin}
use Rattle.mq_flow.proofs.Windows.{same_within, within_after, none_within, removed_within, stored_within}
use Rattle.mq_end.specs.declared.state.State.{State}
use Rattle.mq_end.specs.declared.state.State.TheVariants.{Disconnected, Connecting, Connected}
use Rattle.mq_end.specs.declared.happening.Happening.{Happening}
use Rattle.mq_end.specs.declared.happening.Happening.TheVariants as happens
use Rattle.mq_end.specs.declared.reason.CloseReason.{CloseReason}
use Rattle.mq_end.specs.declared.reason.CloseReason.TheVariants as reasons
use Rattle.mq_end.specs.declared.role.Role.{Role}
use Rattle.mq_end.specs.declared.role.Role.TheVariants.{Client, Server}
use Rattle.mq_end.specs.End.{End, Reply, silent, reports_event, over, closes, becomes_connected, renewed, is_up, one_by_one}
use Rattle.mq_end.specs.Both.{stores, publish_gets, flow_gets, publishes_at}
use Rattle.mq_end.specs.Client.{connack_gets, client_open_gets, client_up_gets, client_gets_in, client_gets, connects}
use Rattle.mq_end.specs.Server.{connect_gets, refuses, level_refused, server_open_gets, server_up_gets, server_gets_in, server_gets}
use Rattle.mq_end.specs.KeepAlive.{is_late, server_ticks}
use Rattle.mq_end.specs.State.{EndState, is_level, client_faulted, server_faulted}
use Rattle.mq_end.specs.Receiving.{Ending, Waits, Closes, Breaks, Starves}
use Rattle.mq_end.specs.Inside.Receiving.{ReceivesAs}
use Rattle.mq_end.specs.Laws.{KeepsWindow, WindowLaws}

pub still : (e : End) → KeepsWindow e e
still e = (refl, same_within e.window e.received)

pub window_then : (e f g : End) → KeepsWindow e f → KeepsWindow f g → KeepsWindow e g
window_then e f g a b = (b.0 ∙ a.0, within_after e.window e.received f.received g.received a.1 (subst (λ (w : Option ℕ). IsWithin w f.received g.received) a.0 b.1))

pub over_window : (e : End) → KeepsWindow e (over e)
over_window e = (refl, cond_both e.clean none_received e.received (IsWithin e.window e.received) (λ t. none_within e.window e.received) (λ f. same_within e.window e.received))

pub renewed_window : (clean : Bool) (e : End) → KeepsWindow e (renewed clean e)
renewed_window true e = (refl, none_within e.window e.received)
renewed_window false e = still e

-- ---- one packet

publish_window : (q : Qos) (d : Option Delivery) (m : Message) (e : End) → KeepsWindow e (publish_gets q d m e).end
publish_window Q0 None m e = still e
publish_window Q1 (Some d) m e = still e
publish_window Q2 (Some d) m e =
    cond_both (fits_window e.window d.id e.received) (stores d.id m e) (closes reasons.Window e) (λ r. KeepsWindow e r.end) (λ t. (refl, stored_within e.window d.id e.received t)) (λ f. over_window e)
publish_window q d m e = over_window e

flow_window : (p : Packet) (e : End) → KeepsWindow e (flow_gets p e).end
flow_window (packets.Publish p) e = publish_window p.message.qos p.delivery p.message e
flow_window (packets.PubAck i) e = still e
flow_window (packets.PubRec i) e = still e
flow_window (packets.PubRel i) e = (refl, removed_within e.window i e.received)
flow_window (packets.PubComp i) e = still e
flow_window p e = over_window e

connack_window : (a : ConnAck) (e : End) → KeepsWindow e (connack_gets a e).end
connack_window (connacks.Refused code) e = over_window e
connack_window (connacks.Accepted present) e =
    cond_both (e.clean && present) (closes reasons.Unexpected e) _ (λ r. KeepsWindow e r.end) (λ t. over_window e)
    (λ f. cond_both (not e.clean && (e.known && not present)) (closes reasons.SessionLost e) (becomes_connected [] present e) (λ r. KeepsWindow e r.end) (λ t. over_window e) (λ f. still e))

client_open_window : (p : Packet) (e : End) → KeepsWindow e (client_open_gets p e).end
client_open_window (packets.ConnAck a) e = connack_window a e
client_open_window p e = over_window e

client_up_window : (p : Packet) (e : End) → KeepsWindow e (client_up_gets p e).end
client_up_window (packets.SubAck i codes) e =
    cond_both (awaits_suback i (length codes) e.book) (reports_event (happens.SubAck i codes) (record e { book = release i e.book })) (closes reasons.Unexpected e) (λ r. KeepsWindow e r.end) (λ t. still e) (λ f. over_window e)
client_up_window (packets.UnsubAck i) e =
    cond_both (awaits_unsuback i e.book) (reports_event (happens.UnsubAck i) (record e { book = release i e.book })) (closes reasons.Unexpected e) (λ r. KeepsWindow e r.end) (λ t. still e) (λ f. over_window e)
client_up_window packets.PingResp e = still e
client_up_window p e = flow_window p e

client_window : (st : State) (p : Packet) (e : End) → KeepsWindow e (client_gets_in st p e).end
client_window Disconnected p e = still e
client_window Connecting p e = client_open_window p e
client_window Connected p e = client_up_window p e

connect_window : (c : Connect) (e : End) → KeepsWindow e (connect_gets c e).end
connect_window c e =
    cond_both (not c.clean_session && eqb (length c.client_id) 0) (refuses IdentifierRejected e) _ (λ r. KeepsWindow e r.end) (λ t. over_window e) (λ f. renewed_window c.clean_session e)

server_open_window : (p : Packet) (e : End) → KeepsWindow e (server_open_gets p e).end
server_open_window (packets.Connect c) e = connect_window c e
server_open_window p e = over_window e

server_up_window : (p : Packet) (e : End) → KeepsWindow e (server_up_gets p e).end
server_up_window (packets.Subscribe i requests) e = still e
server_up_window (packets.Unsubscribe i filters) e = still e
server_up_window packets.PingReq e = still e
server_up_window packets.Disconnect e = over_window e
server_up_window p e = flow_window p e

server_window : (st : State) (p : Packet) (e : End) → KeepsWindow e (server_gets_in st p e).end
server_window Disconnected p e = still e
server_window Connecting p e = server_open_window p e
server_window Connected p e = server_up_window p e

pub client_keeps : (p : Packet) (e : End) → KeepsWindow e (client_gets p e).end
client_keeps p e = client_window e.state p e

pub server_keeps : (p : Packet) (e : End) → KeepsWindow e (server_gets p e).end
server_keeps p e = server_window e.state p e

-- ---- packets, one after another

pub all_window : (does : Packet → End → Reply) → ((p : Packet) (e : End) → KeepsWindow e (does p e).end) → (ps : List Packet) (e : End) → KeepsWindow e (one_by_one does ps e).end
all_window does each [] e = still e
all_window does each (p ∷ ps) e = window_then e (does p e).end (one_by_one does ps (does p e).end).end (each p e) (all_window does each ps (does p e).end)

-- ---- calls

publishes_window : (q : Qos) (i : ℕ) (m : Message) (e : End) → KeepsWindow e (publishes_at q i m e).end
publishes_window Q0 i m e = still e
publishes_window Q1 i m e = still e
publishes_window Q2 i m e = still e

connects_window : (c : Connect) (e : End) → KeepsWindow e (connects c e).end
connects_window c e = window_then e (over e) (renewed c.clean_session (over e)) (over_window e) (renewed_window c.clean_session (over e))

ticks_window : (last now : ℕ) (e : End) → KeepsWindow e (server_ticks last now e).end
ticks_window last now e = cond_both (is_up e.state && is_late last e.keep_alive now) (closes reasons.KeepAlive e) (silent e) (λ r. KeepsWindow e r.end) (λ t. over_window e) (λ f. still e)

pub laws : WindowLaws
laws = record {
  client = all_window client_gets client_keeps;
  server = all_window server_gets server_keeps;
  publish = λ i m e. publishes_window m.qos i m e;
  subscribe = λ i requests e. still e;
  unsubscribe = λ i filters e. still e;
  connect = connects_window;
  opened = over_window;
  late = ticks_window;
  leave = over_window;
  drop = over_window;
  again = window_then;
}

-- ---- bytes

client_faulted_window : (fault : DecodeFault) (e : End) → KeepsWindow e (client_faulted fault e).end
client_faulted_window fault e = over_window e

server_faulted_window : (fault : DecodeFault) (e : End) → KeepsWindow e (server_faulted fault e).end
server_faulted_window fault e =
    cond_both (not (is_up e.state) && is_level fault.kind) (level_refused e) (closes (reasons.Fault fault) e) (λ r. KeepsWindow e r.end) (λ t. over_window e) (λ f. over_window e)

ending_window : (limit : Bounds) (faulted : DecodeFault → End → Reply) → ((fault : DecodeFault) (e : End) → KeepsWindow e (faulted fault e).end) → (e : End) (s : Reply) (rest : List ℕ) (r : Reply) (held : List ℕ)
    → KeepsWindow e s.end → Ending limit faulted s rest r held → KeepsWindow e r.end
ending_window limit faulted each e s rest r held k (Waits pending none same is_held) = subst (λ (t : Reply). KeepsWindow e t.end) (sym same) k
ending_window limit faulted each e s rest r held k (Closes reason closed same is_held) = subst (λ (t : Reply). KeepsWindow e t.end) (sym same) k
ending_window limit faulted each e s rest r held k (Breaks fault bad none same is_held) = subst (λ (t : Reply). KeepsWindow e t.end) (sym same) (window_then e s.end (faulted fault s.end).end k (each fault s.end))
ending_window limit faulted each e s rest r held k (Starves more none same is_held) = subst (λ (t : Reply). KeepsWindow e t.end) (sym same) (window_then e s.end (over s.end) k (over_window s.end))

pub received_window : (role : Role) (piece : List ℕ) (old new : EndState) (happenings : List Happening) (acknowledged : List ℕ) (closed : Option CloseReason) → ReceivesAs role piece old new happenings acknowledged closed → KeepsWindow old.end new.end
received_window Client piece old new happenings acknowledged closed h =
    subst (KeepsWindow old.end) (sym h.2.after)
    (ending_window old.limit client_faulted client_faulted_window old.end (one_by_one client_gets h.1.packets old.end) h.1.rest h.0 new.held (all_window client_gets client_keeps h.1.packets old.end) h.1.ending)
received_window Server piece old new happenings acknowledged closed h =
    subst (KeepsWindow old.end) (sym h.2.after)
    (ending_window old.limit server_faulted server_faulted_window old.end (one_by_one server_gets h.1.packets old.end) h.1.rest h.0 new.held (all_window server_gets server_keeps h.1.packets old.end) h.1.ending)
