-- Each thing that an end does keeps its book sound.
use Rattle.std.proofs.Common.{◌≡◌, ℕ, Bool, true, false, cond, not, ◌&&◌, ltb, Option, Some, None, [], length, refl}
use Rattle.std.proofs.lemmas.Bool.{cond_both}
use Rattle.mq_topic.specs.declared.qos.Qos.{Qos}
use Rattle.mq_topic.specs.declared.qos.Qos.TheVariants.{Q0, Q1, Q2}
use Rattle.mq_packet.specs.declared.connect.Connect.{Connect}
use Rattle.mq_packet.specs.declared.connack.ConnAck.{ConnAck}
use Rattle.mq_packet.specs.declared.connack.ConnAck.TheVariants as connacks
use Rattle.mq_packet.specs.declared.connack.RefusalCode.TheVariants.{IdentifierRejected}
use Rattle.mq_packet.specs.declared.message.Message.{Message}
use Rattle.mq_packet.specs.declared.publish.Delivery.{Delivery}
use Rattle.mq_packet.specs.declared.packet.Packet.{Packet}
use Rattle.mq_packet.specs.declared.packet.Packet.TheVariants as packets
use Rattle.mq_flow.specs.declared.claim.Claim.TheVariants as claims
use Rattle.mq_flow.specs.Sender.{blank_book, no_claims, IsFree, is_full, release, awaits_suback, awaits_unsuback}
use Rattle.mq_flow.specs.Window.{fits_window}
use Rattle.mq_flow.specs.Laws.{IsSound, IsGiven}
use Rattle.mq_flow.proofs.Books.{laws as books}
use Rattle.mq_end.specs.declared.state.State.{State}
use Rattle.mq_end.specs.declared.state.State.TheVariants.{Disconnected, Connecting, Connected}
use Rattle.mq_end.specs.declared.happening.Happening.TheVariants as happens
use Rattle.mq_end.specs.declared.reason.CloseReason.TheVariants as reasons
use Rattle.mq_end.specs.declared.refusal.PublishRefusal.{PublishRefusal}
use Rattle.mq_end.specs.declared.refusal.PublishRefusal.TheVariants as refusals
use Rattle.mq_end.specs.End.{End, reports_event, over, closes, renewed, becomes_connected, is_up}
use Rattle.mq_end.specs.Both.{stores, publish_gets, flow_gets, publishes_at, publish_refusal, has_identifier}
use Rattle.mq_end.specs.Sizes.{publish_size}
use Rattle.mq_end.specs.Client.{connack_gets, client_open_gets, client_up_gets, client_gets_in, request_refusal}
use Rattle.mq_end.specs.Server.{connect_gets, refuses, server_open_gets, server_up_gets, server_gets_in}
use Rattle.mq_end.specs.Laws.{MayHave, SoundLaws}

pub over_sound : (capacity : ℕ) (e : End) → IsSound capacity e.book → IsSound capacity (over e).book
over_sound capacity e s = cond_both e.clean blank_book (no_claims e.book) (λ b. IsSound capacity b) (λ t. books.at_first capacity) (λ f. books.drops capacity e.book s)

pub renewed_sound : (capacity : ℕ) (clean : Bool) (e : End) → IsSound capacity e.book → IsSound capacity (renewed clean e).book
renewed_sound capacity true e s = books.at_first capacity
renewed_sound capacity false e s = s

publish_sound : (capacity : ℕ) (q : Qos) (d : Option Delivery) (m : Message) (e : End) → IsSound capacity e.book → IsSound capacity (publish_gets q d m e).end.book
publish_sound capacity Q0 None m e s = s
publish_sound capacity Q1 (Some d) m e s = s
publish_sound capacity Q2 (Some d) m e s =
    cond_both (fits_window e.window d.id e.received) (stores d.id m e) (closes reasons.Window e) (λ r. IsSound capacity r.end.book) (λ t. s) (λ f. over_sound capacity e s)
publish_sound capacity q d m e s = over_sound capacity e s

flow_sound : (capacity : ℕ) (p : Packet) (e : End) → IsSound capacity e.book → IsSound capacity (flow_gets p e).end.book
flow_sound capacity (packets.Publish p) e s = publish_sound capacity p.message.qos p.delivery p.message e s
flow_sound capacity (packets.PubAck i) e s = books.puback capacity i e.book s
flow_sound capacity (packets.PubRec i) e s = books.pubrec capacity i e.book s
flow_sound capacity (packets.PubRel i) e s = s
flow_sound capacity (packets.PubComp i) e s = books.pubcomp capacity i e.book s
flow_sound capacity p e s = over_sound capacity e s

connack_sound : (capacity : ℕ) (a : ConnAck) (e : End) → IsSound capacity e.book → IsSound capacity (connack_gets a e).end.book
connack_sound capacity (connacks.Refused code) e s = over_sound capacity e s
connack_sound capacity (connacks.Accepted present) e s =
    cond_both (e.clean && present) (closes reasons.Unexpected e) _ (λ r. IsSound capacity r.end.book) (λ t. over_sound capacity e s)
    (λ f. cond_both (not e.clean && (e.known && not present)) (closes reasons.SessionLost e) (becomes_connected [] present e) (λ r. IsSound capacity r.end.book) (λ t. over_sound capacity e s) (λ f. books.sends capacity e.book s))

client_open_sound : (capacity : ℕ) (p : Packet) (e : End) → IsSound capacity e.book → IsSound capacity (client_open_gets p e).end.book
client_open_sound capacity (packets.ConnAck a) e s = connack_sound capacity a e s
client_open_sound capacity p e s = over_sound capacity e s

client_up_sound : (capacity : ℕ) (p : Packet) (e : End) → IsSound capacity e.book → IsSound capacity (client_up_gets p e).end.book
client_up_sound capacity (packets.SubAck i codes) e s =
    cond_both (awaits_suback i (length codes) e.book) (reports_event (happens.SubAck i codes) (record e { book = release i e.book })) (closes reasons.Unexpected e) (λ r. IsSound capacity r.end.book)
    (λ t. books.releases capacity i e.book s) (λ f. over_sound capacity e s)
client_up_sound capacity (packets.UnsubAck i) e s =
    cond_both (awaits_unsuback i e.book) (reports_event (happens.UnsubAck i) (record e { book = release i e.book })) (closes reasons.Unexpected e) (λ r. IsSound capacity r.end.book)
    (λ t. books.releases capacity i e.book s) (λ f. over_sound capacity e s)
client_up_sound capacity packets.PingResp e s = s
client_up_sound capacity p e s = flow_sound capacity p e s

client_in_sound : (capacity : ℕ) (st : State) (p : Packet) (e : End) → IsSound capacity e.book → IsSound capacity (client_gets_in st p e).end.book
client_in_sound capacity Disconnected p e s = s
client_in_sound capacity Connecting p e s = client_open_sound capacity p e s
client_in_sound capacity Connected p e s = client_up_sound capacity p e s

connect_sound : (capacity : ℕ) (c : Connect) (e : End) → IsSound capacity e.book → IsSound capacity (connect_gets c e).end.book
connect_sound capacity c e s =
    cond_both _ (refuses IdentifierRejected e) _ (λ r. IsSound capacity r.end.book) (λ t. over_sound capacity e s)
    (λ f. books.sends capacity (renewed c.clean_session e).book (renewed_sound capacity c.clean_session e s))

server_open_sound : (capacity : ℕ) (p : Packet) (e : End) → IsSound capacity e.book → IsSound capacity (server_open_gets p e).end.book
server_open_sound capacity (packets.Connect c) e s = connect_sound capacity c e s
server_open_sound capacity p e s = over_sound capacity e s

server_up_sound : (capacity : ℕ) (p : Packet) (e : End) → IsSound capacity e.book → IsSound capacity (server_up_gets p e).end.book
server_up_sound capacity (packets.Subscribe i requests) e s = s
server_up_sound capacity (packets.Unsubscribe i filters) e s = s
server_up_sound capacity packets.PingReq e s = s
server_up_sound capacity packets.Disconnect e s = over_sound capacity e s
server_up_sound capacity p e s = flow_sound capacity p e s

server_in_sound : (capacity : ℕ) (st : State) (p : Packet) (e : End) → IsSound capacity e.book → IsSound capacity (server_gets_in st p e).end.book
server_in_sound capacity Disconnected p e s = s
server_in_sound capacity Connecting p e s = server_open_sound capacity p e s
server_in_sound capacity Connected p e s = server_up_sound capacity p e s

-- ---- calls

-- A message that is not refused fits the size limit, and there is room.
pub last_of : (a b c : Bool) (x y z : PublishRefusal) → cond a (Some x) (cond b (Some y) (cond c (Some z) None)) ≡ None → (a ≡ false) × (b ≡ false) × (c ≡ false)
last_of true b c x y z h = cc
last_of false true c x y z h = cc
last_of false false true x y z h = cc
last_of false false false x y z h = (refl, refl, refl)

-- The conditions that a message meets if it is not refused.
pub allowed : (limit capacity : ℕ) (m : Message) (e : End) → publish_refusal limit capacity m e ≡ None → (not (has_identifier m.qos) && not (is_up e.state) ≡ false) × (ltb limit (publish_size m) ≡ false) × (has_identifier m.qos && is_full capacity e.book ≡ false)
allowed limit capacity m e h =
    last_of (not (has_identifier m.qos) && not (is_up e.state)) (ltb limit (publish_size m)) (has_identifier m.qos && is_full capacity e.book) refusals.NotConnected refusals.TooLarge refusals.Full h

pub published_sound : (limit capacity i : ℕ) (q : Qos) (m : Message) (e : End) → publish_refusal limit capacity (record m { qos = q }) e ≡ None → MayHave (has_identifier q) e i → IsSound capacity e.book → IsSound capacity (publishes_at q i (record m { qos = q }) e).end.book
published_sound limit capacity i Q0 m e h free s = s
published_sound limit capacity i Q1 m e h free s = books.accepts capacity i (record m { qos = Q1 }) (is_up e.state) e.book (allowed limit capacity (record m { qos = Q1 }) e h).2 free s
published_sound limit capacity i Q2 m e h free s = books.accepts capacity i (record m { qos = Q2 }) (is_up e.state) e.book (allowed limit capacity (record m { qos = Q2 }) e h).2 free s

pub published_given : (limit capacity i : ℕ) (q : Qos) (m : Message) (e : End) → publish_refusal limit capacity (record m { qos = q }) e ≡ None → has_identifier q ≡ true → IsFree e.book i → IsGiven capacity e.book (publishes_at q i (record m { qos = q }) e).end.book i
published_given limit capacity i Q0 m e h has free = cc
published_given limit capacity i Q1 m e h has free = books.accepted capacity i (record m { qos = Q1 }) (is_up e.state) e.book (allowed limit capacity (record m { qos = Q1 }) e h).2 free
published_given limit capacity i Q2 m e h has free = books.accepted capacity i (record m { qos = Q2 }) (is_up e.state) e.book (allowed limit capacity (record m { qos = Q2 }) e h).2 free

requested : (limit capacity size : ℕ) (e : End) → request_refusal limit capacity size e ≡ None → is_full capacity e.book ≡ false
requested limit capacity size e h = (last_of (not (is_up e.state)) (ltb limit size) (is_full capacity e.book) refusals.NotConnected refusals.TooLarge refusals.Full h).2

pub laws : SoundLaws
laws = record {
  client = λ capacity p e s. client_in_sound capacity e.state p e s;
  server = λ capacity p e s. server_in_sound capacity e.state p e s;
  publish = λ limit capacity i m e h free s. published_sound limit capacity i m.qos m e h free s;
  published = λ limit capacity i m e h has free. published_given limit capacity i m.qos m e h has free;
  subscribe = λ limit capacity i requests e h free s. books.claims capacity i claims.Subscribe (length requests) e.book (requested _ _ _ e h) free s;
  unsubscribe = λ limit capacity i filters e h free s. books.claims capacity i claims.Unsubscribe (length filters) e.book (requested _ _ _ e h) free s;
  connect = λ capacity c e s. renewed_sound capacity c.clean_session (over e) (over_sound capacity e s);
  opened = λ capacity e s. over_sound capacity e s;
  leave = λ capacity e s. over_sound capacity e s;
  drop = λ capacity e s. over_sound capacity e s;
}
