-- The answers to a packet have no more bytes than the packet.
use Rattle.std.proofs.Common.{◌≡◌, ℕ, ◌+◌, ◌*◌, ◌<◌, ◌≤◌, Bool, true, false, not, ◌&&◌, eqb, cond, ltb, List, [], ◌∷◌, ◌++◌, map, length, filter, Option, Some, None, refl, ap, ◌∙◌, arith}
use Rattle.std.proofs.lemmas.Bool.{cond_both, cond-true, lt-ltb, ltb-true, ltb-false}
use Rattle.std.proofs.lemmas.List.{length-append}
use Rattle.std.specs.List.{flat_map}
use Rattle.mq_wire.specs.Length.{length_bytes}
use Rattle.mq_wire.specs.Text.{counted}
use Rattle.mq_topic.specs.declared.qos.Qos.{Qos}
use Rattle.mq_topic.specs.declared.qos.Qos.TheVariants.{Q0, Q1, Q2}
use Rattle.mq_topic.specs.Qos.{qos_number}
use Rattle.mq_packet.specs.declared.connect.Connect.{Connect}
use Rattle.mq_packet.specs.declared.connack.ConnAck.TheVariants as connacks
use Rattle.mq_packet.specs.declared.connack.RefusalCode.{RefusalCode}
use Rattle.mq_packet.specs.declared.connack.RefusalCode.TheVariants.{IdentifierRejected}
use Rattle.mq_packet.specs.declared.message.Message.{Message}
use Rattle.mq_packet.specs.declared.publish.Delivery.{Delivery}
use Rattle.mq_packet.specs.declared.packet.Packet.{Packet}
use Rattle.mq_packet.specs.declared.packet.Packet.TheVariants as packets
use Rattle.mq_packet.specs.declared.packet.Request.{Request}
use Rattle.mq_packet.specs.declared.packet.SubAckCode.{SubAckCode}
use Rattle.mq_packet.specs.Encoding.{fields, request_fields, code_fields, encoding, encodings}
use Rattle.mq_flow.specs.declared.entry.SenderEntry.{SenderEntry}
use Rattle.mq_flow.specs.Sender.{SenderBook, blank_book, is_awaited, publish_packet, resent}
use Rattle.mq_flow.specs.Receiver.{is_new}
use Rattle.mq_flow.specs.Window.{fits_window}
use Rattle.mq_end.specs.declared.state.State.{State}
use Rattle.mq_end.specs.declared.state.State.TheVariants.{Disconnected, Connecting, Connected}
use Rattle.mq_end.specs.declared.happening.Happening.{Happening}
use Rattle.mq_end.specs.declared.happening.Happening.TheVariants as happens
use Rattle.mq_end.specs.declared.reason.CloseReason.TheVariants as reasons
use Rattle.mq_end.specs.End.{End, Reply, closes, is_up}
use Rattle.mq_end.specs.Both.{stores, publish_gets, flow_gets, publishes_at}
use Rattle.mq_end.specs.Server.{connect_gets, refuses, server_open_gets, server_up_gets, server_gets_in, server_gets}
use Rattle.mq_route.specs.Arrives.{granted}
use Rattle.mq_route.specs.Bounds.Broker.{is_answer}
use Rattle.mq_route.proofs.Bounds.Lengths.{connack_size, puback_size, pubrec_size, pubcomp_size, pingresp_size}
use Rattle.mq_route.proofs.Bounds.Packets.{publish_size, connect_size}
use Rattle.mq_route.proofs.Bounds.Again.{few_bytes}

-- the bytes of the answers among packets
abbrev pub weight : List Packet → ℕ
weight ps = length (encodings (filter is_answer ps))

pub unsuback_size : (i : ℕ) → length (encodings (packets.UnsubAck i ∷ [])) ≡ 4
unfolding encoding length_bytes
unsuback_size i = refl

-- ---- SUBACK

coded : (rs : List Request) → length (flat_map code_fields (granted rs)) ≡ length rs
coded [] = refl
coded (r ∷ rs) = let rest = coded rs in omega arith

-- a request takes three bytes at least (3.8.3)
requested : (rs : List Request) → 3 * length rs ≤ length (flat_map request_fields rs)
requested [] = omega arith
requested (r ∷ rs) =
    let all = length-append (request_fields r) (flat_map request_fields rs) in
    let one = length-append (counted r.filter) (qos_number r.qos ∷ []) in
    let rest = requested rs in
    omega arith

-- a remaining length of less than 128 takes a byte (2.2.3)
one_byte : (n : ℕ) → n < 128 → length (length_bytes n) ≡ 1
unfolding length_bytes
one_byte n h = ap length (cond-true (ltb n 128) (n ∷ []) _ (lt-ltb n 128 h))

suback_size : (i n : ℕ) (codes : List SubAckCode) → length (flat_map code_fields codes) ≡ n → length (encodings (packets.SubAck i codes ∷ [])) ≤ 4 + 3 * n
unfolding encoding
suback_size i n codes e =
    let p : Packet = packets.SubAck i codes in
    let all = length-append (encoding p) [] in
    let parts = length-append (length_bytes (length (fields p))) (fields p) in
    let few = few_bytes (length (fields p)) in
    by (ltb (length (fields p)) 128) refl all parts few
  where
    by : (b : Bool) → ltb (length (fields (packets.SubAck i codes))) 128 ≡ b
        → length (encoding (packets.SubAck i codes) ++ []) ≡ length (encoding (packets.SubAck i codes)) + 0
        → length (length_bytes (length (fields (packets.SubAck i codes))) ++ fields (packets.SubAck i codes)) ≡ length (length_bytes (length (fields (packets.SubAck i codes)))) + length (fields (packets.SubAck i codes))
        → length (length_bytes (length (fields (packets.SubAck i codes)))) ≤ 4
        → length (encodings (packets.SubAck i codes ∷ [])) ≤ 4 + 3 * n
    by true lt all parts few =
        let one = one_byte (length (fields (packets.SubAck i codes))) (ltb-true (length (fields (packets.SubAck i codes))) 128 lt) in
        omega arith
    by false ge all parts few =
        let big = ltb-false (length (fields (packets.SubAck i codes))) 128 ge in
        omega arith

-- ---- answers to the reports of an end

abbrev pub asked : Happening → ℕ
asked (happens.Subscribe i requests) = weight (packets.SubAck i (granted requests) ∷ [])
asked (happens.Unsubscribe i filters) = weight (packets.UnsubAck i ∷ [])
asked told = 0

abbrev pub asked_all : List Happening → ℕ
asked_all [] = 0
asked_all (told ∷ later) = asked told + asked_all later

-- the reply, and the answers to its reports, have at most n bytes
abbrev pub CostWithin : ℕ → Reply → Type 0
CostWithin n r = weight r.out + asked_all r.happenings ≤ n

-- ---- packets that are sent again are no answers

releases_none : (ids : List ℕ) (ps : List Packet) → filter is_answer (map packets.PubRel ids ++ ps) ≡ filter is_answer ps
releases_none [] ps = refl
releases_none (i ∷ ids) ps = releases_none ids ps

publishes_none : (es : List SenderEntry) → filter is_answer (map (λ (x : SenderEntry). publish_packet x.id x.sent x.message) es) ≡ []
publishes_none [] = refl
publishes_none (x ∷ xs) = publishes_none xs

resent_none : (b : SenderBook) → filter is_answer (resent b) ≡ []
resent_none b = releases_none b.released (map (λ (x : SenderEntry). publish_packet x.id x.sent x.message) b.entries) ∙ publishes_none b.entries

-- published packets are no answers
pub published_none : (q : Qos) (i : ℕ) (m : Message) (e : End) → weight (publishes_at q i m e).out ≡ 0
published_none Q0 i m e = refl
published_none Q1 i m e = by (is_up e.state)
  where
    by : (b : Bool) → weight (cond b (publish_packet i false m ∷ []) []) ≡ 0
    by true = refl
    by false = refl
published_none Q2 i m e = by (is_up e.state)
  where
    by : (b : Bool) → weight (cond b (publish_packet i false m ∷ []) []) ≡ 0
    by true = refl
    by false = refl

-- ---- a packet

handed_none : (b : Bool) (m : Message) → asked_all (cond b (happens.Handed m ∷ []) []) ≡ 0
handed_none true m = refl
handed_none false m = refl

publish_cost : (q : Qos) (d : Option Delivery) (m : Message) (e : End) (n : ℕ) → 4 ≤ n → CostWithin n (publish_gets q d m e)
publish_cost Q0 None m e n h = omega arith
publish_cost Q1 (Some d) m e n h = let size = puback_size d.id in omega arith
publish_cost Q2 (Some d) m e n h =
    cond_both (fits_window e.window d.id e.received) (stores d.id m e) (closes reasons.Window e) (CostWithin n)
    (λ t. let size = pubrec_size d.id in let none = handed_none (is_new d.id e.received) m in omega arith) (λ f. omega arith)
publish_cost q d m e n h = omega arith

answer_none : (b : Bool) (i : ℕ) → weight (cond b (packets.PubRel i ∷ []) []) ≡ 0
answer_none true i = refl
answer_none false i = refl

flow_cost : (p : Packet) (e : End) → CostWithin (2 + length (fields p)) (flow_gets p e)
flow_cost (packets.Publish p) e = publish_cost p.message.qos p.delivery p.message e (2 + length (fields (packets.Publish p))) (let size = publish_size p in omega arith)
flow_cost (packets.PubAck i) e = omega arith
flow_cost (packets.PubRec i) e = let none = answer_none (is_awaited Q2 i e.book.entries) i in omega arith
flow_cost (packets.PubRel i) e = let size = pubcomp_size i in omega arith
flow_cost (packets.PubComp i) e = omega arith
flow_cost p e = omega arith

refused_cost : (code : RefusalCode) (e : End) (n : ℕ) → 4 ≤ n → CostWithin n (refuses code e)
refused_cost code e n h = let size = connack_size (connacks.Refused code) in omega arith

connect_cost : (c : Connect) (e : End) (n : ℕ) → 4 ≤ n → CostWithin n (connect_gets c e)
connect_cost c e n h =
    cond_both (not c.clean_session && eqb (length c.client_id) 0) (refuses IdentifierRejected e) _ (CostWithin n) (λ t. refused_cost IdentifierRejected e n h)
    (λ f. let a = connacks.Accepted (not c.clean_session && e.known) in
    let none = ap (λ (ps : List Packet). length (encodings (packets.ConnAck a ∷ ps))) (resent_none (cond c.clean_session blank_book e.book)) in
    let size = connack_size a in
    omega arith)

server_open_cost : (p : Packet) (e : End) → CostWithin (2 + length (fields p)) (server_open_gets p e)
server_open_cost (packets.Connect c) e = connect_cost c e (2 + length (fields (packets.Connect c))) (let size = connect_size c in omega arith)
server_open_cost p e = omega arith

server_up_cost : (p : Packet) (e : End) → CostWithin (2 + length (fields p)) (server_up_gets p e)
server_up_cost (packets.Subscribe i requests) e =
    let size = suback_size i (length requests) (granted requests) (coded requests) in
    let some = requested requests in
    omega arith
server_up_cost (packets.Unsubscribe i filters) e = let size = unsuback_size i in omega arith
server_up_cost packets.PingReq e = let size = pingresp_size in omega arith
server_up_cost packets.Disconnect e = omega arith
server_up_cost p e = flow_cost p e

server_cost : (st : State) (p : Packet) (e : End) → CostWithin (2 + length (fields p)) (server_gets_in st p e)
server_cost Disconnected p e = omega arith
server_cost Connecting p e = server_open_cost p e
server_cost Connected p e = server_up_cost p e

pub gets_cost : (p : Packet) (e : End) → CostWithin (2 + length (fields p)) (server_gets p e)
gets_cost p e = server_cost e.state p e
