-- The output of a run encodes a stream: all of it is within the limit.
use Rattle.std.proofs.Common.{◌≡◌, ℕ, ◌≤◌, Bool, true, false, not, ◌&&◌, cond, Option, Some, None, List, [], ◌∷◌, ◌++◌, length, nat_lt, refl, sym}
use Rattle.std.proofs.Common.{subst, append_assoc, arith}
use Rattle.std.proofs.lemmas.Bool.{leb-true, le-leb, ltb-false}
use Rattle.std.proofs.lemmas.List.{length-append}
use Rattle.mq_topic.specs.declared.qos.Qos.{Qos}
use Rattle.mq_topic.specs.declared.qos.Qos.TheVariants.{Q0, Q1, Q2}
use Rattle.mq_packet.specs.Publication.{fits_delivery}
use Rattle.mq_packet.specs.Encoding.{Encodes, fields, publish_fields, delivery_fields}
use Rattle.mq_packet.specs.declared.message.Message.{Message}
use Rattle.mq_packet.specs.declared.connect.Connect.{Connect}
use Rattle.mq_packet.specs.declared.connack.ConnAck.TheVariants as connacks
use Rattle.mq_packet.specs.declared.publish.Delivery.{Delivery}
use Rattle.mq_packet.specs.declared.packet.Packet.{Packet}
use Rattle.mq_packet.specs.declared.packet.Packet.TheVariants as packets
use Rattle.mq_decode.specs.Limits.{Bounds}
use Rattle.mq_decode.specs.Grammar.{Reads, Stream}
use Rattle.mq_end.specs.declared.refusal.PublishRefusal.{PublishRefusal}
use Rattle.mq_end.specs.declared.refusal.PublishRefusal.TheVariants as refusals
use Rattle.mq_end.specs.declared.state.State.{State}
use Rattle.mq_end.specs.declared.state.State.TheVariants.{Disconnected, Connecting, Connected}
use Rattle.mq_end.specs.End.{End, is_up, is_live}
use Rattle.mq_end.specs.Both.{has_identifier, publish_refusal}
use Rattle.mq_end.specs.Sizes.{publish_size, identifier_size}
use Rattle.mq_end.specs.State.{EncodesAll}
use Rattle.mq_world.specs.declared.side.Side.TheVariants.{Client, Server}
use Rattle.mq_world.specs.Half.{Half, Publishes, joined, put}
use Rattle.mq_world.specs.Machine.{Machine, Move, By, Run, after, blank_machine, first_packet}
use Rattle.mq_world.specs.Orders.{Each}
use Rattle.mq_world.specs.Carried.{IsCarried, IsEntry, PublishOnly}
use Rattle.mq_world.specs.Carries.{fits, Reached, WiredSide, CarriesSide}
use Rattle.mq_world.proofs.Steps.{not_refused}
use Rattle.mq_world.proofs.Carrying.{carried}
use Rattle.mq_world.proofs.Streams.{stream_joins}

-- ---- sizes

delivery_size : (q : Qos) (d : Option Delivery) → fits_delivery q d ≡ true → length (delivery_fields d) ≤ identifier_size q
delivery_size Q0 None f = omega arith
delivery_size Q0 (Some d) f = cc
delivery_size Q1 None f = cc
delivery_size Q1 (Some d) f = omega arith
delivery_size Q2 None f = cc
delivery_size Q2 (Some d) f = omega arith

publication_size : (m : Message) (d : Option Delivery) → fits_delivery m.qos d ≡ true
    → length (publish_fields (record { message = m; delivery = d })) ≤ publish_size m
publication_size m d f =
    let a = length-append (delivery_fields d) m.payload in
    let b = length-append m.topic (delivery_fields d ++ m.payload) in
    let c = delivery_size m.qos d f in
    omega arith

within : (limit : ℕ) (m : Message) → fits limit m ≡ true → publish_size m ≤ limit
within limit m t = leb-true (publish_size m) limit t

size_within : (limit : ℕ) (p : Packet) → 64 ≤ limit → IsCarried (fits limit) p → length (fields p) ≤ limit
size_within limit (packets.Connect c) large h =
    let e : length (fields (packets.Connect first_packet)) ≡ 13 = refl in
    subst (λ (c : Connect). length (fields (packets.Connect c)) ≤ limit) (sym h) (omega arith)
size_within limit (packets.ConnAck (connacks.Accepted present)) large h = omega arith
size_within limit (packets.ConnAck (connacks.Refused code)) large h = omega arith
size_within limit (packets.Publish p) large h =
    let a = publication_size p.message p.delivery h.1 in
    let b = within limit p.message h.0 in
    omega arith
size_within limit (packets.PubAck i) large h = omega arith
size_within limit (packets.PubRec i) large h = omega arith
size_within limit (packets.PubRel i) large h = omega arith
size_within limit (packets.PubComp i) large h = omega arith
size_within limit packets.PingReq large h = omega arith
size_within limit packets.PingResp large h = omega arith
size_within limit packets.Disconnect large h = omega arith
size_within limit p large h = absurd h

-- An encoding is read under all limits.
reads : (lenient : Bool) (p : Packet) (b : List ℕ) → Encodes p b → Reads lenient p b
reads false p b h = h
reads true p b h = record { packet = h.packet; len = h.len; formed = (h.formed.0, h.formed.1); bytes = h.bytes }

pub encoded_within : (limit : Bounds) → 64 ≤ limit.most → (ps : List Packet) (c : List ℕ) → Each (IsCarried (fits limit.most)) ps → EncodesAll ps c
    → Stream limit ps c
encoded_within limit large [] c h s = s
encoded_within limit large (p ∷ ps) c h s =
    (s.0, s.1, (reads limit.lenient p s.0 s.2, size_within limit.most p large h.0), encoded_within limit large ps s.1 h.1 s.3, s.4)

-- ---- runs

refused_else : (t : Bool) (why : PublishRefusal) (later : Option PublishRefusal) → cond t (Some why) later ≡ None → (t ≡ false) × (later ≡ None)
refused_else true why later r = cc
refused_else false why later r = (refl, r)

fits_here : (limit capacity : ℕ) (m : Message) (e : End) → publish_refusal limit capacity m e ≡ None → fits limit m ≡ true
fits_here limit capacity m e r =
    let connected = refused_else (not (has_identifier m.qos) && not (is_up e.state)) refusals.NotConnected _ r in
    let small = refused_else (nat_lt limit (publish_size m)) refusals.TooLarge _ connected.1 in
    le-leb (publish_size m) limit (ltb-false limit (publish_size m) small.0)

run_fits : (limit capacity : ℕ) (w : Machine) (moves : List Move) (v : Machine) → Run limit capacity w moves v → PublishOnly (fits limit) moves
run_fits limit capacity w [] v run = tt
run_fits limit capacity w (By Client (Publishes i m) ∷ moves) v run = (
  fits_here limit capacity m w.client.end (not_refused limit capacity Client m w.client.end run.0.0),
  run_fits limit capacity (after w (By Client (Publishes i m))) moves v run.1,
)
run_fits limit capacity w (By Server (Publishes i m) ∷ moves) v run = (
  fits_here limit capacity m w.server.end (not_refused limit capacity Server m w.server.end run.0.0),
  run_fits limit capacity (after w (By Server (Publishes i m))) moves v run.1,
)
run_fits limit capacity w (move ∷ moves) v run = run_fits limit capacity (after w move) moves v run.1

-- All packets in flight in a machine that a run reaches are within the limit.
pub reached_fits : (limit capacity : ℕ) (m : Machine) → Reached limit capacity m → Each (IsCarried (fits limit)) m.client.coming
    × Each (IsCarried (fits limit)) m.server.coming
reached_fits limit capacity m r =
    let h = carried (fits limit) limit capacity r.0 r.1 m (run_fits limit capacity (blank_machine r.0) r.1 m r.2) r.2 in
    (h.0.coming, h.1.coming)

-- and so are the messages that its client holds
pub reached_entries : (limit capacity : ℕ) (m : Machine) → Reached limit capacity m → Each (IsEntry (fits limit)) m.client.end.book.entries
reached_entries limit capacity m r =
    (carried (fits limit) limit capacity r.0 r.1 m (run_fits limit capacity (blank_machine r.0) r.1 m r.2) r.2).0.entries

-- ---- The wire toward a side grows by the output of the other side

each_last : {A : Type 0} (P : A → Type 0) (xs ys : List A) → Each P (xs ++ ys) → Each P ys
each_last P [] ys h = h
each_last P (x ∷ xs) ys h = each_last P xs ys h.1

joins_stream : (limit : Bounds) (st : State) (q ps : List Packet) (b c : List ℕ) → 64 ≤ limit.most
    → Each (IsCarried (fits limit.most)) (joined st q ps) → EncodesAll ps c → (is_live st ≡ true → Stream limit q b) → is_live st ≡ true
    → Stream limit (joined st q ps) (b ++ c)
joins_stream limit Disconnected q ps b c large h s old live = cc
joins_stream limit Connecting q ps b c large h s old live =
    stream_joins limit q ps b c (old live) (encoded_within limit large ps c (each_last (IsCarried (fits limit.most)) q ps h) s)
joins_stream limit Connected q ps b c large h s old live =
    stream_joins limit q ps b c (old live) (encoded_within limit large ps c (each_last (IsCarried (fits limit.most)) q ps h) s)

pub grown : (limit : Bounds) (capacity : ℕ) (y : WiredSide) (h : Half) (ps : List Packet) (c : List ℕ) → 64 ≤ limit.most
    → Each (IsCarried (fits limit.most)) (put ps h).coming → EncodesAll ps c → CarriesSide limit capacity y h
    → CarriesSide limit capacity (record y { wire = y.wire ++ c }) (put ps h)
grown limit capacity y h ps c large fit s k = record {
  end = k.end;
  bytes = λ live. subst (Stream limit (joined h.end.state h.coming ps)) (append_assoc y.state.held y.wire c)
      (joins_stream limit h.end.state h.coming ps (y.state.held ++ y.wire) c large fit s k.bytes live);
  output = k.output;
  reserved = k.reserved;
  limits = k.limits;
  room = k.room;
  accepted = k.accepted;
  handed = k.handed;
  freed = k.freed;
}
