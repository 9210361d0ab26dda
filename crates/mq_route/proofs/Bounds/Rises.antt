-- Ends that connect, and their state before.
use Rattle.std.proofs.Common.{◌≡◌, ℕ, ◌≤◌, Bool, true, false, not, ◌&&◌, eqb, cond, [], ◌∷◌, length, Option, Some, None, refl, sym, ap, subst, ◌∙◌, arith}
use Rattle.std.proofs.lemmas.Bool.{cond_both}
use Rattle.mq_topic.specs.declared.qos.Qos.{Qos}
use Rattle.mq_topic.specs.declared.qos.Qos.TheVariants.{Q0, Q1, Q2}
use Rattle.mq_packet.specs.declared.connect.Connect.{Connect}
use Rattle.mq_packet.specs.declared.connack.ConnAck.{ConnAck}
use Rattle.mq_packet.specs.declared.connack.ConnAck.TheVariants as connacks
use Rattle.mq_packet.specs.declared.connack.RefusalCode.{RefusalCode}
use Rattle.mq_packet.specs.declared.connack.RefusalCode.TheVariants.{IdentifierRejected}
use Rattle.mq_packet.specs.declared.message.Message.{Message}
use Rattle.mq_packet.specs.declared.publish.Delivery.{Delivery}
use Rattle.mq_packet.specs.declared.packet.Packet.{Packet}
use Rattle.mq_packet.specs.declared.packet.Packet.TheVariants as packets
use Rattle.mq_packet.specs.Encoding.{encodings}
use Rattle.mq_flow.specs.Sender.{release, awaits_suback, awaits_unsuback}
use Rattle.mq_flow.specs.Receiver.{is_new}
use Rattle.mq_flow.specs.Window.{fits_window}
use Rattle.mq_end.specs.declared.state.State.{State}
use Rattle.mq_end.specs.declared.state.State.TheVariants.{Disconnected, Connecting, Connected}
use Rattle.mq_end.specs.declared.happening.Happening.TheVariants as happens
use Rattle.mq_end.specs.declared.reason.CloseReason.{CloseReason}
use Rattle.mq_end.specs.declared.reason.CloseReason.TheVariants as reasons
use Rattle.mq_end.specs.End.{End, Reply, reports_event, closes, becomes_connected}
use Rattle.mq_end.specs.Both.{stores, publish_gets, flow_gets}
use Rattle.mq_end.specs.Client.{connack_gets, client_open_gets, client_up_gets, client_gets_in, client_gets}
use Rattle.mq_end.specs.Server.{connect_gets, refuses, server_open_gets, server_up_gets, server_gets_in, server_gets}
use Rattle.mq_route.specs.Bounds.Costs.{has_up_event}
use Rattle.mq_route.proofs.Bounds.Lengths.{connack_size}

-- the end waits for CONNECT or CONNACK (3.1, 3.2)
abbrev pub is_open : State → Bool
is_open Disconnected = false
is_open Connecting = true
is_open Connected = false

-- the reply doesn't connect the end, and the end doesn't wait afterwards
pub record IsCalm (r : Reply) : Type 0 where
  pub quiet : has_up_event r.happenings ≡ false
  pub gone : is_open r.end.state ≡ false

-- A waiting end stops waiting at a packet. If it does not connect, it closes and sends at most a
-- refusal.
pub record Opens (refusal : ℕ) (r : Reply) : Type 0 where
  pub gone : is_open r.end.state ≡ false
  pub shut : has_up_event r.happenings ≡ false → (reason : CloseReason) × (r.close ≡ Some reason) × (r.end.state ≡ Disconnected) × (length (encodings r.out) ≤ refusal)

-- ---- a connected end

calm : (r : Reply) (e : End) → r.end.state ≡ e.state → is_open e.state ≡ false → has_up_event r.happenings ≡ false → IsCalm r
calm r e same not_open quiet = record { quiet = quiet; gone = ap is_open same ∙ not_open }

calm_closes : (reason : CloseReason) (e : End) → IsCalm (closes reason e)
calm_closes reason e = record { quiet = refl; gone = refl }

handed : (b : Bool) (m : Message) → has_up_event (cond b (happens.Handed m ∷ []) []) ≡ false
handed true m = refl
handed false m = refl

publish_calm : (q : Qos) (d : Option Delivery) (m : Message) (e : End) → is_open e.state ≡ false → IsCalm (publish_gets q d m e)
publish_calm Q0 None m e h = calm _ e refl h refl
publish_calm Q1 (Some d) m e h = calm _ e refl h refl
publish_calm Q2 (Some d) m e h =
    cond_both (fits_window e.window d.id e.received) (stores d.id m e) (closes reasons.Window e) IsCalm (λ t. calm (stores d.id m e) e refl h (handed (is_new d.id e.received) m)) (λ f. calm_closes reasons.Window e)
publish_calm q d m e h = calm_closes reasons.Unexpected e

flow_calm : (p : Packet) (e : End) → is_open e.state ≡ false → IsCalm (flow_gets p e)
flow_calm (packets.Publish p) e h = publish_calm p.message.qos p.delivery p.message e h
flow_calm (packets.PubAck i) e h = calm _ e refl h refl
flow_calm (packets.PubRec i) e h = calm _ e refl h refl
flow_calm (packets.PubRel i) e h = calm _ e refl h refl
flow_calm (packets.PubComp i) e h = calm _ e refl h refl
flow_calm p e h = calm_closes reasons.Unexpected e

client_up_calm : (p : Packet) (e : End) → is_open e.state ≡ false → IsCalm (client_up_gets p e)
client_up_calm (packets.SubAck i codes) e h =
    cond_both (awaits_suback i (length codes) e.book) (reports_event (happens.SubAck i codes) (record e { book = release i e.book })) (closes reasons.Unexpected e) IsCalm
    (λ t. calm (reports_event (happens.SubAck i codes) (record e { book = release i e.book })) e refl h refl) (λ f. calm_closes reasons.Unexpected e)
client_up_calm (packets.UnsubAck i) e h =
    cond_both (awaits_unsuback i e.book) (reports_event (happens.UnsubAck i) (record e { book = release i e.book })) (closes reasons.Unexpected e) IsCalm
    (λ t. calm (reports_event (happens.UnsubAck i) (record e { book = release i e.book })) e refl h refl) (λ f. calm_closes reasons.Unexpected e)
client_up_calm packets.PingResp e h = calm _ e refl h refl
client_up_calm p e h = flow_calm p e h

server_up_calm : (p : Packet) (e : End) → is_open e.state ≡ false → IsCalm (server_up_gets p e)
server_up_calm (packets.Subscribe i requests) e h = calm _ e refl h refl
server_up_calm (packets.Unsubscribe i filters) e h = calm _ e refl h refl
server_up_calm packets.PingReq e h = calm _ e refl h refl
server_up_calm packets.Disconnect e h = calm_closes reasons.Left e
server_up_calm p e h = flow_calm p e h

client_calm_in : (st : State) (p : Packet) (e : End) → is_open st ≡ false → is_open e.state ≡ false → IsCalm (client_gets_in st p e)
client_calm_in Disconnected p e s h = calm _ e refl h refl
client_calm_in Connecting p e s h = absurd cc
client_calm_in Connected p e s h = client_up_calm p e h

server_calm_in : (st : State) (p : Packet) (e : End) → is_open st ≡ false → is_open e.state ≡ false → IsCalm (server_gets_in st p e)
server_calm_in Disconnected p e s h = calm _ e refl h refl
server_calm_in Connecting p e s h = absurd cc
server_calm_in Connected p e s h = server_up_calm p e h

pub client_calm : (p : Packet) (e : End) → is_open e.state ≡ false → IsCalm (client_gets p e)
client_calm p e h = client_calm_in e.state p e h h

pub server_calm : (p : Packet) (e : End) → is_open e.state ≡ false → IsCalm (server_gets p e)
server_calm p e h = server_calm_in e.state p e h h

-- ---- a waiting end

shuts : (refusal : ℕ) (reason : CloseReason) (e : End) → Opens refusal (closes reason e)
shuts refusal reason e = record { gone = refl; shut = λ h. (reason, refl, refl, omega arith) }

clash : true ≡ false → ⊥
clash h = cc

connack_opens : (a : ConnAck) (e : End) → Opens 0 (connack_gets a e)
connack_opens (connacks.Refused code) e = shuts 0 (reasons.Refused code) e
connack_opens (connacks.Accepted present) e =
    cond_both (e.clean && present) (closes reasons.Unexpected e) _ (Opens 0) (λ t. shuts 0 reasons.Unexpected e)
    (λ f. cond_both (not e.clean && (e.known && not present)) (closes reasons.SessionLost e) (becomes_connected [] present e) (Opens 0) (λ t. shuts 0 reasons.SessionLost e)
    (λ f. record { gone = refl; shut = λ h. absurd (clash h) }))

client_open_opens : (p : Packet) (e : End) → Opens 0 (client_open_gets p e)
client_open_opens (packets.ConnAck a) e = connack_opens a e
client_open_opens p e = shuts 0 reasons.Unexpected e

refused_opens : (code : RefusalCode) (e : End) → Opens 4 (refuses code e)
refused_opens code e = record { gone = refl; shut = λ h. (reasons.Refused code, refl, refl, let size = connack_size (connacks.Refused code) in omega arith) }

connect_opens : (c : Connect) (e : End) → Opens 4 (connect_gets c e)
connect_opens c e =
    cond_both (not c.clean_session && eqb (length c.client_id) 0) (refuses IdentifierRejected e) _ (Opens 4) (λ t. refused_opens IdentifierRejected e) (λ f. record { gone = refl; shut = λ h. absurd (clash h) })

server_open_opens : (p : Packet) (e : End) → Opens 4 (server_open_gets p e)
server_open_opens (packets.Connect c) e = connect_opens c e
server_open_opens p e = shuts 4 reasons.Unexpected e

pub client_opens : (p : Packet) (e : End) → e.state ≡ Connecting → Opens 0 (client_gets p e)
client_opens p e h = subst (λ (st : State). Opens 0 (client_gets_in st p e)) (sym h) (client_open_opens p e)

pub server_opens : (p : Packet) (e : End) → e.state ≡ Connecting → Opens 4 (server_gets p e)
server_opens p e h = subst (λ (st : State). Opens 4 (server_gets_in st p e)) (sym h) (server_open_opens p e)
