-- The output for a packet is at most as long as the packet, without retransmissions.
use Rattle.std.proofs.Common.{ℕ, ◌+◌, ◌/◌, ◌%◌, ◌≤◌, Bool, true, false, not, ◌&&◌, eqb, cond, [], ◌∷◌, ◌++◌, length, Option, Some, None, arith}
use Rattle.std.proofs.lemmas.Bool.{cond_both}
use Rattle.std.proofs.lemmas.List.{length-append}
use Rattle.mq_wire.specs.Text.{counted}
use Rattle.mq_topic.specs.declared.qos.Qos.{Qos}
use Rattle.mq_topic.specs.declared.qos.Qos.TheVariants.{Q0, Q1, Q2}
use Rattle.mq_packet.specs.declared.connect.Connect.{Connect}
use Rattle.mq_packet.specs.declared.connack.ConnAck.{ConnAck}
use Rattle.mq_packet.specs.declared.connack.ConnAck.TheVariants as connacks
use Rattle.mq_packet.specs.declared.connack.RefusalCode.{RefusalCode}
use Rattle.mq_packet.specs.declared.connack.RefusalCode.TheVariants.{IdentifierRejected}
use Rattle.mq_packet.specs.declared.message.Message.{Message}
use Rattle.mq_packet.specs.declared.publish.Delivery.{Delivery}
use Rattle.mq_packet.specs.declared.packet.Packet.{Packet}
use Rattle.mq_packet.specs.declared.packet.Packet.TheVariants as packets
use Rattle.mq_packet.specs.Publication.{Publication}
use Rattle.mq_packet.specs.Encoding.{fields, protocol, connect_flags, connect_protocol, connect_head, connect_fields, will_fields, login_fields, delivery_fields, publish_fields, encodings}
use Rattle.mq_flow.specs.Sender.{SenderBook, blank_book, is_awaited, release, awaits_suback, awaits_unsuback, resent}
use Rattle.mq_flow.specs.Window.{fits_window}
use Rattle.mq_end.specs.declared.state.State.{State}
use Rattle.mq_end.specs.declared.state.State.TheVariants.{Disconnected, Connecting, Connected}
use Rattle.mq_end.specs.declared.happening.Happening.TheVariants as happens
use Rattle.mq_end.specs.declared.reason.CloseReason.TheVariants as reasons
use Rattle.mq_end.specs.End.{End, Reply, reports_event, closes, becomes_connected}
use Rattle.mq_end.specs.Both.{stores, publish_gets, flow_gets}
use Rattle.mq_end.specs.Client.{connack_gets, client_open_gets, client_up_gets, client_gets_in, client_gets}
use Rattle.mq_end.specs.Server.{connect_gets, refuses, server_open_gets, server_up_gets, server_gets_in, server_gets}
use Rattle.mq_route.specs.Bounds.Costs.{has_up_event, book_for, sent_again}
use Rattle.mq_route.proofs.Bounds.Lengths.{connack_size, puback_size, pubrec_size, pubrel_size, pubcomp_size, pingresp_size, joined_size}

-- the reply sends at most n bytes, without retransmissions
abbrev pub OutWithin : ℕ → SenderBook → Reply → Type 0
OutWithin n book r = length (encodings r.out) ≤ n + length (sent_again (has_up_event r.happenings) book)

-- ---- messages and their acknowledgements

publish_out : (q : Qos) (d : Option Delivery) (m : Message) (e : End) (n : ℕ) → 4 ≤ n → OutWithin n e.book (publish_gets q d m e)
publish_out Q0 None m e n h = omega arith
publish_out Q1 (Some d) m e n h = let size = puback_size d.id in omega arith
publish_out Q2 (Some d) m e n h =
    cond_both (fits_window e.window d.id e.received) (stores d.id m e) (closes reasons.Window e) (OutWithin n e.book) (λ t. let size = pubrec_size d.id in omega arith) (λ f. omega arith)
publish_out q d m e n h = omega arith

-- a PUBLISH has at least the length of its topic name
pub publish_size : (p : Publication) → 2 ≤ length (publish_fields p)
publish_size p = let parts = length-append (counted p.message.topic) (delivery_fields p.delivery ++ p.message.payload) in omega arith

answer_out : (b : Bool) (i : ℕ) → length (encodings (cond b (packets.PubRel i ∷ []) [])) ≤ 4
answer_out true i = let size = pubrel_size i in omega arith
answer_out false i = omega arith

flow_out : (p : Packet) (e : End) → OutWithin (2 + length (fields p)) (book_for p e.book) (flow_gets p e)
flow_out (packets.Publish p) e = publish_out p.message.qos p.delivery p.message e (2 + length (fields (packets.Publish p))) (let size = publish_size p in omega arith)
flow_out (packets.PubAck i) e = omega arith
flow_out (packets.PubRec i) e = let size = answer_out (is_awaited Q2 i e.book.entries) i in omega arith
flow_out (packets.PubRel i) e = let size = pubcomp_size i in omega arith
flow_out (packets.PubComp i) e = omega arith
flow_out p e = omega arith

-- ---- the client

connack_out : (a : ConnAck) (e : End) (n : ℕ) → OutWithin n e.book (connack_gets a e)
connack_out (connacks.Refused code) e n = omega arith
connack_out (connacks.Accepted present) e n =
    cond_both (e.clean && present) (closes reasons.Unexpected e) _ (OutWithin n e.book) (λ t. omega arith)
    (λ f. cond_both (not e.clean && (e.known && not present)) (closes reasons.SessionLost e) (becomes_connected [] present e) (OutWithin n e.book) (λ t. omega arith) (λ f. omega arith))

client_open_out : (p : Packet) (e : End) (n : ℕ) → OutWithin n (book_for p e.book) (client_open_gets p e)
client_open_out (packets.ConnAck a) e n = connack_out a e n
client_open_out p e n = omega arith

client_up_out : (p : Packet) (e : End) → OutWithin (2 + length (fields p)) (book_for p e.book) (client_up_gets p e)
client_up_out (packets.SubAck i codes) e =
    cond_both (awaits_suback i (length codes) e.book) (reports_event (happens.SubAck i codes) (record e { book = release i e.book })) (closes reasons.Unexpected e) (OutWithin (2 + length (fields (packets.SubAck i codes))) e.book) (λ t. omega arith) (λ f. omega arith)
client_up_out (packets.UnsubAck i) e =
    cond_both (awaits_unsuback i e.book) (reports_event (happens.UnsubAck i) (record e { book = release i e.book })) (closes reasons.Unexpected e) (OutWithin 4 e.book) (λ t. omega arith) (λ f. omega arith)
client_up_out packets.PingResp e = omega arith
client_up_out p e = flow_out p e

client_out : (st : State) (p : Packet) (e : End) → OutWithin (2 + length (fields p)) (book_for p e.book) (client_gets_in st p e)
client_out Disconnected p e = omega arith
client_out Connecting p e = client_open_out p e (2 + length (fields p))
client_out Connected p e = client_up_out p e

pub client_answer : (p : Packet) (e : End) → OutWithin (2 + length (fields p)) (book_for p e.book) (client_gets p e)
client_answer p e = client_out e.state p e

-- ---- the server

-- a CONNECT has at least the protocol name and level (3.1.2)
pub connect_size : (c : Connect) → 2 ≤ length (connect_fields c)
connect_size c =
    let whole = length-append (connect_head c) (will_fields c.will ++ login_fields c.login) in
    let head = length-append (connect_protocol c) (counted c.client_id) in
    let first = length-append protocol (connect_flags c ∷ (c.keep_alive / 256 ∷ c.keep_alive % 256 ∷ [])) in
    omega arith

pub refused_out : (code : RefusalCode) (e : End) (book : SenderBook) (n : ℕ) → 4 ≤ n → OutWithin n book (refuses code e)
refused_out code e book n h = let size = connack_size (connacks.Refused code) in omega arith

connect_out : (c : Connect) (e : End) (n : ℕ) → 4 ≤ n → OutWithin n (book_for (packets.Connect c) e.book) (connect_gets c e)
connect_out c e n h =
    cond_both (not c.clean_session && eqb (length c.client_id) 0) (refuses IdentifierRejected e) _ (OutWithin n (book_for (packets.Connect c) e.book)) (λ t. refused_out IdentifierRejected e (book_for (packets.Connect c) e.book) n h)
    (λ f. let a = connacks.Accepted (not c.clean_session && e.known) in
    let parts = joined_size (packets.ConnAck a ∷ []) (resent (cond c.clean_session blank_book e.book)) in
    let size = connack_size a in
    omega arith)

server_open_out : (p : Packet) (e : End) → OutWithin (2 + length (fields p)) (book_for p e.book) (server_open_gets p e)
server_open_out (packets.Connect c) e = connect_out c e (2 + length (fields (packets.Connect c))) (let size = connect_size c in omega arith)
server_open_out p e = omega arith

server_up_out : (p : Packet) (e : End) → OutWithin (2 + length (fields p)) (book_for p e.book) (server_up_gets p e)
server_up_out (packets.Subscribe i requests) e = omega arith
server_up_out (packets.Unsubscribe i filters) e = omega arith
server_up_out packets.PingReq e = let size = pingresp_size in omega arith
server_up_out packets.Disconnect e = omega arith
server_up_out p e = flow_out p e

server_out : (st : State) (p : Packet) (e : End) → OutWithin (2 + length (fields p)) (book_for p e.book) (server_gets_in st p e)
server_out Disconnected p e = omega arith
server_out Connecting p e = server_open_out p e
server_out Connected p e = server_up_out p e

pub server_answer : (p : Packet) (e : End) → OutWithin (2 + length (fields p)) (book_for p e.book) (server_gets p e)
server_answer p e = server_out e.state p e
