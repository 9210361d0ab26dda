-- The identifiers that a packet stores, and the length of such a packet.
use Rattle.std.proofs.Common.{◌≡◌, ℕ, ◌+◌, ◌-◌, ◌*◌, ◌≤◌, Bool, true, false, not, ◌&&◌, eqb, cond, List, [], ◌∷◌, ◌++◌, length, Option, Some, None, refl, arith}
use Rattle.std.proofs.lemmas.Bool.{cond_both}
use Rattle.std.proofs.lemmas.List.{length-append}
use Rattle.std.specs.FinSet.{FinSet, insert, remove, contains, len, len-empty, len-insert, len-remove}
use Rattle.std.specs.Ordering.{nat_cmp}
use Rattle.std.specs.Cmp.{nat_cmp_total}
use Rattle.mq_wire.specs.Text.{counted}
use Rattle.mq_topic.specs.Topic.{is_topic_name}
use Rattle.mq_topic.specs.declared.qos.Qos.{Qos}
use Rattle.mq_topic.specs.declared.qos.Qos.TheVariants.{Q0, Q1, Q2}
use Rattle.mq_packet.specs.declared.connect.Connect.{Connect}
use Rattle.mq_packet.specs.declared.connack.ConnAck.{ConnAck}
use Rattle.mq_packet.specs.declared.connack.ConnAck.TheVariants as connacks
use Rattle.mq_packet.specs.declared.connack.RefusalCode.TheVariants.{IdentifierRejected}
use Rattle.mq_packet.specs.declared.message.Message.{Message}
use Rattle.mq_packet.specs.declared.publish.Delivery.{Delivery}
use Rattle.mq_packet.specs.declared.packet.Packet.{Packet}
use Rattle.mq_packet.specs.declared.packet.Packet.TheVariants as packets
use Rattle.mq_packet.specs.Publication.{Publication, fits_delivery}
use Rattle.mq_packet.specs.Values.{IsPacket, IsPublication}
use Rattle.mq_packet.specs.Encoding.{fields, delivery_fields, publish_fields}
use Rattle.mq_decode.specs.Grammar.{Reads}
use Rattle.mq_flow.specs.Sender.{same_qos, release, awaits_suback, awaits_unsuback}
use Rattle.mq_flow.specs.Receiver.{none_received}
use Rattle.mq_flow.specs.Window.{fits_window}
use Rattle.mq_end.specs.declared.state.State.{State}
use Rattle.mq_end.specs.declared.state.State.TheVariants.{Disconnected, Connecting, Connected}
use Rattle.mq_end.specs.declared.happening.Happening.TheVariants as happens
use Rattle.mq_end.specs.declared.reason.CloseReason.TheVariants as reasons
use Rattle.mq_end.specs.End.{End, reports_event, over, closes, becomes_connected, renewed}
use Rattle.mq_end.specs.Both.{stores, publish_gets, flow_gets}
use Rattle.mq_end.specs.Client.{connack_gets, client_open_gets, client_up_gets, client_gets_in, client_gets}
use Rattle.mq_end.specs.Server.{connect_gets, refuses, server_open_gets, server_up_gets, server_gets_in, server_gets}
use Rattle.mq_end.specs.Ready.{is_exactly_once}
use Rattle.mq_route.proofs.Bounds.Lengths.{read_size}

-- at most n more identifiers are stored
abbrev pub StoresWithin : ℕ → End → End → Type 0
StoresWithin n e f = len f.received ≤ len e.received + n

pub over_stores : (e : End) (n : ℕ) → StoresWithin n e (over e)
over_stores e n =
    let none = len-empty nat_cmp in
    cond_both e.clean none_received e.received (λ (s : FinSet nat_cmp). len s ≤ len e.received + n) (λ t. omega arith) (λ f. omega arith)

inserted : (s : FinSet nat_cmp) (i : ℕ) → len (insert s i) ≤ len s + 1
inserted s i = by (contains s i) (len-insert nat_cmp_total s i)
  where
    by : (b : Bool) → len (insert s i) ≡ cond b (len s) (len s + 1) → len (insert s i) ≤ len s + 1
    by true e = omega arith
    by false e = omega arith

removed : (s : FinSet nat_cmp) (i n : ℕ) → len (remove s i) ≤ len s + n
removed s i n = by (contains s i) (len-remove nat_cmp_total s i)
  where
    by : (b : Bool) → len (remove s i) ≡ cond b (len s - 1) (len s) → len (remove s i) ≤ len s + n
    by true e = omega arith
    by false e = omega arith

-- ---- a packet

publish_stores : (q : Qos) (d : Option Delivery) (m : Message) (e : End) → StoresWithin (cond (same_qos Q2 q) 1 0) e (publish_gets q d m e).end
publish_stores Q0 None m e = omega arith
publish_stores Q1 (Some d) m e = omega arith
publish_stores Q2 (Some d) m e =
    cond_both (fits_window e.window d.id e.received) (stores d.id m e) (closes reasons.Window e) (λ r. StoresWithin 1 e r.end) (λ t. inserted e.received d.id) (λ f. over_stores e 1)
publish_stores q d m e = over_stores e (cond (same_qos Q2 q) 1 0)

flow_stores : (p : Packet) (e : End) → StoresWithin (cond (is_exactly_once p) 1 0) e (flow_gets p e).end
flow_stores (packets.Publish p) e = publish_stores p.message.qos p.delivery p.message e
flow_stores (packets.PubAck i) e = omega arith
flow_stores (packets.PubRec i) e = omega arith
flow_stores (packets.PubRel i) e = removed e.received i 0
flow_stores (packets.PubComp i) e = omega arith
flow_stores p e = over_stores e 0

connack_stores : (a : ConnAck) (e : End) → StoresWithin 0 e (connack_gets a e).end
connack_stores (connacks.Refused code) e = over_stores e 0
connack_stores (connacks.Accepted present) e =
    cond_both (e.clean && present) (closes reasons.Unexpected e) _ (λ r. StoresWithin 0 e r.end) (λ t. over_stores e 0)
    (λ f. cond_both (not e.clean && (e.known && not present)) (closes reasons.SessionLost e) (becomes_connected [] present e) (λ r. StoresWithin 0 e r.end) (λ t. over_stores e 0) (λ f. omega arith))

client_open_stores : (p : Packet) (e : End) → StoresWithin (cond (is_exactly_once p) 1 0) e (client_open_gets p e).end
client_open_stores (packets.ConnAck a) e = connack_stores a e
client_open_stores p e = over_stores e (cond (is_exactly_once p) 1 0)

client_up_stores : (p : Packet) (e : End) → StoresWithin (cond (is_exactly_once p) 1 0) e (client_up_gets p e).end
client_up_stores (packets.SubAck i codes) e =
    cond_both (awaits_suback i (length codes) e.book) (reports_event (happens.SubAck i codes) (record e { book = release i e.book })) (closes reasons.Unexpected e) (λ r. StoresWithin 0 e r.end) (λ t. omega arith) (λ f. over_stores e 0)
client_up_stores (packets.UnsubAck i) e =
    cond_both (awaits_unsuback i e.book) (reports_event (happens.UnsubAck i) (record e { book = release i e.book })) (closes reasons.Unexpected e) (λ r. StoresWithin 0 e r.end) (λ t. omega arith) (λ f. over_stores e 0)
client_up_stores packets.PingResp e = omega arith
client_up_stores p e = flow_stores p e

client_stores : (st : State) (p : Packet) (e : End) → StoresWithin (cond (is_exactly_once p) 1 0) e (client_gets_in st p e).end
client_stores Disconnected p e = omega arith
client_stores Connecting p e = client_open_stores p e
client_stores Connected p e = client_up_stores p e

renewed_stores : (clean : Bool) (e : End) → StoresWithin 0 e (renewed clean e)
renewed_stores true e = let none = len-empty nat_cmp in omega arith
renewed_stores false e = omega arith

connect_stores : (c : Connect) (e : End) → StoresWithin 0 e (connect_gets c e).end
connect_stores c e =
    cond_both (not c.clean_session && eqb (length c.client_id) 0) (refuses IdentifierRejected e) _ (λ r. StoresWithin 0 e r.end) (λ t. over_stores e 0) (λ f. renewed_stores c.clean_session e)

server_open_stores : (p : Packet) (e : End) → StoresWithin (cond (is_exactly_once p) 1 0) e (server_open_gets p e).end
server_open_stores (packets.Connect c) e = connect_stores c e
server_open_stores p e = over_stores e (cond (is_exactly_once p) 1 0)

server_up_stores : (p : Packet) (e : End) → StoresWithin (cond (is_exactly_once p) 1 0) e (server_up_gets p e).end
server_up_stores (packets.Subscribe i requests) e = omega arith
server_up_stores (packets.Unsubscribe i filters) e = omega arith
server_up_stores packets.PingReq e = omega arith
server_up_stores packets.Disconnect e = over_stores e 0
server_up_stores p e = flow_stores p e

server_stores : (st : State) (p : Packet) (e : End) → StoresWithin (cond (is_exactly_once p) 1 0) e (server_gets_in st p e).end
server_stores Disconnected p e = omega arith
server_stores Connecting p e = server_open_stores p e
server_stores Connected p e = server_up_stores p e

pub client_stored : (p : Packet) (e : End) → StoresWithin (cond (is_exactly_once p) 1 0) e (client_gets p e).end
client_stored p e = client_stores e.state p e

pub server_stored : (p : Packet) (e : End) → StoresWithin (cond (is_exactly_once p) 1 0) e (server_gets p e).end
server_stored p e = server_stores e.state p e

-- ---- the length of a packet that stores an identifier

read_value : (lenient : Bool) (p : Packet) (b : List ℕ) → Reads lenient p b → IsPacket p
read_value false p b h = h.packet
read_value true p b h = h.packet

identified : (q : Qos) (d : Option Delivery) → same_qos Q2 q ≡ true → fits_delivery q d ≡ true → length (delivery_fields d) ≡ 2
identified Q0 d s h = absurd cc
identified Q1 d s h = absurd cc
identified Q2 None s h = absurd cc
identified Q2 (Some d) s h = refl

named : (t : List ℕ) → is_topic_name t ≡ true → 1 ≤ length t
named [] h = absurd cc
named (x ∷ t) h = omega arith

published : (p : Publication) → IsPublication p → same_qos Q2 p.message.qos ≡ true → 5 ≤ length (publish_fields p)
published p is twice =
    let all = length-append (counted p.message.topic) (delivery_fields p.delivery ++ p.message.payload) in
    let rest = length-append (delivery_fields p.delivery) p.message.payload in
    let id = identified p.message.qos p.delivery twice is.fits in
    let some = named p.message.topic is.message.topic.name in
    omega arith

-- a packet that stores an identifier has at least seven bytes
stored_fields : (p : Packet) → IsPacket p → 7 * cond (is_exactly_once p) 1 0 ≤ 2 + length (fields p)
stored_fields (packets.Publish p) h = by (same_qos Q2 p.message.qos) refl
  where
    by : (b : Bool) → same_qos Q2 p.message.qos ≡ b → 7 * cond b 1 0 ≤ 2 + length (publish_fields p)
    by true e = let size = published p h e in omega arith
    by false e = omega arith
stored_fields p h = omega arith

pub stored_size : (lenient : Bool) (p : Packet) (b : List ℕ) → Reads lenient p b → 7 * cond (is_exactly_once p) 1 0 ≤ length b
stored_size lenient p b h =
    let size = read_size lenient p b h in
    let few = stored_fields p (read_value lenient p b h) in
    omega arith
