-- Room to connect by a CONNECT, and the output that follows.
use Rattle.std.proofs.Common.{◌≡◌, ℕ, ◌+◌, ◌*◌, ◌<◌, ◌≤◌, ◌^◌, Bool, true, false, not, ◌&&◌, ◌||◌, eqb, cond, List, [], ◌∷◌, ◌++◌, map, length, filter, Option, Some, None, IfSome, Result, Ok, Err, IsOk, IfOk, OnErr, refl, sym, ap, subst, ◌∙◌, arith}
use Rattle.std.specs.List.{list_any}
use Rattle.std.specs.Option.{SomeIff}
use Rattle.mq_topic.specs.declared.qos.Qos.{Qos}
use Rattle.mq_topic.specs.declared.qos.Qos.TheVariants.{Q0, Q1, Q2}
use Rattle.mq_packet.specs.declared.connack.ConnAck.{ConnAck}
use Rattle.mq_packet.specs.declared.connack.ConnAck.TheVariants as connacks
use Rattle.mq_packet.specs.declared.connack.RefusalCode.TheVariants.{IdentifierRejected}
use Rattle.mq_packet.specs.declared.connect.Connect.{Connect}
use Rattle.mq_packet.specs.declared.message.Message.{Message}
use Rattle.mq_packet.specs.declared.packet.Packet.{Packet}
use Rattle.mq_packet.specs.declared.packet.Packet.TheVariants as packets
use Rattle.mq_packet.specs.declared.publish.Delivery.{Delivery}
use Rattle.mq_packet.specs.Publication.{fits_delivery}
use Rattle.mq_packet.specs.Encoding.{fields}
use Rattle.mq_flow.specs.declared.entry.SenderEntry.{SenderEntry}
use Rattle.mq_flow.specs.Sender.{SenderBook, blank_book, no_claims, publish_packet, resent, same_qos}
use Rattle.mq_end.specs.declared.publish_outcome.PublishOutcome.{PublishOutcome}
use Rattle.mq_end.specs.declared.packet_outcome.PacketOutcome.{PacketOutcome}
use Rattle.mq_end.specs.declared.state.State.{State}
use Rattle.mq_end.specs.declared.state.State.TheVariants.{Connecting}
use Rattle.mq_end.specs.End.{End, Reply, becomes_connected, is_live, is_up, over, renewed}
use Rattle.mq_end.specs.Both.{has_identifier}
use Rattle.mq_end.specs.Server.{connect_gets, opens, refuses, server_gets, server_gets_in}
use Rattle.mq_end.specs.Sizes.{publish_size}
use Rattle.mq_end.specs.State.{EndState, Room}
use Rattle.mq_end.specs.Ready.{AreEncodable, AwaitsConnect, FitsRoom, HasConnectRoom, HasRoom, packets_size, publishes_size, size_at_once}
use Rattle.mq_end.specs.Receiving.{TakesPacket, outcome_of, told_of}
use Rattle.mq_end.proofs.Handings.{err_told, ok_told}
use Rattle.mq_end.proofs.Measures.{laws}
use Rattle.mq_end.proofs.Rooms.{at_most_all, keeps_room, published, put_within, sizes_joined, up_is_live}

-- ---- The response to a CONNECT

-- by whether it is refused, whether clean session is 1, whether a session is known, and its book
abbrev out_of : Bool → Bool → Bool → SenderBook → List Packet
out_of refused clean known b = cond refused (packets.ConnAck (connacks.Refused IdentifierRejected) ∷ []) (packets.ConnAck (connacks.Accepted (not clean && known)) ∷ resent (cond clean blank_book b))

out_by : (b : Bool) (r s : Reply) → (cond b r s).out ≡ cond b r.out s.out
out_by true r s = refl
out_by false r s = refl

abbrev is_refused : Connect → Bool
is_refused c = not c.clean_session && eqb (length c.client_id) 0

connect_puts : (c : Connect) (e : End) → (connect_gets c e).out ≡ out_of (is_refused c) c.clean_session e.known e.book
connect_puts c e =
    out_by (is_refused c) (refuses IdentifierRejected e)
    (becomes_connected (packets.ConnAck (connacks.Accepted (not c.clean_session && e.known)) ∷ []) (not c.clean_session && e.known) (record (renewed c.clean_session e) { keep_alive = c.keep_alive }))

claims_aside : (refused clean known : Bool) (b : SenderBook) → out_of refused clean known (no_claims b) ≡ out_of refused clean known b
claims_aside true clean known b = refl
claims_aside false true known b = refl
claims_aside false false known b = refl

-- Opening a connection changes nothing of it, if no session of clean session 1 ends.
opened_out : (c : Connect) (f : End) → f.clean ≡ false → (connect_gets c (opens f).end).out ≡ (connect_gets c f).out
opened_out c f h =
    connect_puts c (opens f).end
    ∙ ap (λ (k : Bool). out_of (is_refused c) c.clean_session (cond k false f.known) (cond k blank_book (no_claims f.book))) h
    ∙ claims_aside (is_refused c) c.clean_session f.known f.book
    ∙ sym (connect_puts c f)

-- nor does one that is over
pub over_out : (c : Connect) (e : End) → (server_gets (packets.Connect c) (opens (over e)).end).out ≡ (server_gets (packets.Connect c) (opens e).end).out
over_out c e = opened_out c (over e) refl ∙ connect_puts c (over e) ∙ sym (connect_puts c (opens e).end)

pub twice_out : (c : Connect) (e : End) → (server_gets (packets.Connect c) (opens (opens e).end).end).out ≡ (server_gets (packets.Connect c) (opens e).end).out
twice_out c e = opened_out c (opens e).end refl

pub waiting_out : (c : Connect) (e : End) → e.state ≡ Connecting → e.clean ≡ false → (server_gets (packets.Connect c) (opens e).end).out ≡ (server_gets (packets.Connect c) e).out
waiting_out c e waits unclean = opened_out c e unclean ∙ sym (ap (λ (s : State). (server_gets_in s (packets.Connect c) e).out) waits)

-- ---- its bytes

connack_size : (a : ConnAck) → length (fields (packets.ConnAck a)) ≡ 2
connack_size (connacks.Accepted b) = refl
connack_size (connacks.Refused code) = refl

size_out : (refused clean known : Bool) (b : SenderBook) → packets_size (out_of refused clean known b) ≤ 7 + packets_size (resent (cond clean blank_book b))
size_out true clean known b = let e = connack_size (connacks.Refused IdentifierRejected) in omega arith
size_out false clean known b = let e = connack_size (connacks.Accepted (not clean && known)) in omega arith

small : (a : ConnAck) → length (fields (packets.ConnAck a)) < 2 ^ 28
small a = let e = connack_size a in omega arith

encodable_out : (refused clean known : Bool) (b : SenderBook) → AreEncodable (resent (cond clean blank_book b)) → AreEncodable (out_of refused clean known b)
encodable_out true clean known b h = (small (connacks.Refused IdentifierRejected), tt)
encodable_out false clean known b h = (small (connacks.Accepted (not clean && known)), h)

-- Retransmissions, if neither this CONNECT nor the previous one has clean session 1.
begun : (clean before : Bool) (b : SenderBook) → resent (cond clean blank_book (cond before blank_book (no_claims b))) ≡ cond (clean || before) [] (resent b)
begun true before b = refl
begun false true b = refl
begun false false b = refl

pub rise_size : (c : Connect) (e : End) → packets_size (server_gets (packets.Connect c) (opens e).end).out ≤ 7 + packets_size (cond (c.clean_session || e.clean) [] (resent e.book))
rise_size c e =
    subst (λ (ps : List Packet). packets_size ps ≤ 7 + packets_size (cond (c.clean_session || e.clean) [] (resent e.book))) (sym (connect_puts c (opens e).end))
    (subst (λ (ps : List Packet). packets_size (out_of (is_refused c) c.clean_session (opens e).end.known (opens e).end.book) ≤ 7 + packets_size ps) (begun c.clean_session e.clean e.book)
    (size_out (is_refused c) c.clean_session (opens e).end.known (opens e).end.book))

pub rise_encodable : (c : Connect) (e : End) → AreEncodable (cond (c.clean_session || e.clean) [] (resent e.book)) → AreEncodable (server_gets (packets.Connect c) (opens e).end).out
rise_encodable c e h =
    subst AreEncodable (sym (connect_puts c (opens e).end))
    (encodable_out (is_refused c) c.clean_session (opens e).end.known (opens e).end.book (subst AreEncodable (sym (begun c.clean_session e.clean e.book)) h))

-- ---- the room for it

pub rise_kept : (c : Connect) (ms : List Message) (more : ℕ) (old new : EndState) → new.room ≡ old.room → (server_gets (packets.Connect c) (opens new.end).end).out ≡ (server_gets (packets.Connect c) (opens old.end).end).out → HasConnectRoom c ms more old → HasConnectRoom c ms more new
rise_kept c ms more old new room out h = record {
  messages = subst (λ (r : Room). length (filter (λ m. has_identifier m.qos) ms) ≤ r.messages) (sym room) h.messages;
  bytes =
      let less = ap packets_size out in
      let same = ap (λ (r : Room). r.bytes) room in
      let had = h.bytes in
      omega arith;
  encodable = subst AreEncodable (sym out) h.encodable;
}

-- Opening and losing a connection.
pub opened_rise : (c : Connect) (ms : List Message) (more : ℕ) (old new : EndState) → new.end ≡ (opens old.end).end → new.room ≡ old.room → HasConnectRoom c ms more old → HasConnectRoom c ms more new
opened_rise c ms more old new is room h = rise_kept c ms more old new room (ap (λ (e : End). (server_gets (packets.Connect c) (opens e).end).out) is ∙ twice_out c old.end) h

pub dropped_rise : (c : Connect) (ms : List Message) (more : ℕ) (old new : EndState) → new.end ≡ over old.end → new.room ≡ old.room → HasConnectRoom c ms more old → HasConnectRoom c ms more new
dropped_rise c ms more old new is room h = rise_kept c ms more old new room (ap (λ (e : End). (server_gets (packets.Connect c) (opens e).end).out) is ∙ over_out c old.end) h

-- more room
pub rise_more : (c : Connect) (ms : List Message) (more : ℕ) (old new : EndState) → new.end ≡ old.end → old.room.messages ≤ new.room.messages → old.room.bytes ≤ new.room.bytes → HasConnectRoom c ms more old → HasConnectRoom c ms more new
rise_more c ms more old new same messages bytes h = record {
  messages = let had = h.messages in omega arith;
  bytes =
      let less = ap (λ (e : End). packets_size (server_gets (packets.Connect c) (opens e).end).out) same in
      let had = h.bytes in
      omega arith;
  encodable = subst (λ (e : End). AreEncodable (server_gets (packets.Connect c) (opens e).end).out) (sym same) h.encodable;
}

pub rise_fits : (c : Connect) (ms : List Message) (more : ℕ) (s : EndState) → AwaitsConnect s → HasConnectRoom c ms more s → FitsRoom (server_gets (packets.Connect c) s.end).out s
rise_fits c ms more s w h =
    let out = ap packets_size (waiting_out c s.end w.state w.clean) in
    let none = ap length w.output in
    let had = h.bytes in
    omega arith

pub rise_encodes : (c : Connect) (ms : List Message) (more : ℕ) (s : EndState) → AwaitsConnect s → HasConnectRoom c ms more s → AreEncodable (server_gets (packets.Connect c) s.end).out
rise_encodes c ms more s w h = subst AreEncodable (waiting_out c s.end w.state w.clean) h.encodable

pub risen_room : (now : ℕ) (c : Connect) (o : PacketOutcome) (ms : List Message) (more : ℕ) (old new : EndState) → TakesPacket now (packets.Connect c) o old new → AwaitsConnect old → HasConnectRoom c ms more old → HasRoom ms more new
risen_room now c o ms more old new t w h = record {
  messages = subst (λ (r : Room). length (filter (λ m. has_identifier m.qos) ms) ≤ r.messages) (sym room) h.messages;
  bytes =
      let grown = put_within (server_gets (packets.Connect c) old.end).out old.output new.output t.out in
      let out = ap packets_size (waiting_out c old.end w.state w.clean) in
      let none = ap length w.output in
      let most = at_most_all new.end.state ms in
      let same = ap (λ (r : Room). r.bytes) room in
      let had = h.bytes in
      omega arith;
}
  where
    room : new.room ≡ old.room
    room = ap (λ (s : EndState). s.room) t.state

-- ---- Retransmissions

encodable_joined : (ps qs : List Packet) → AreEncodable ps → AreEncodable qs → AreEncodable (ps ++ qs)
encodable_joined [] qs h k = k
encodable_joined (p ∷ ps) qs h k = (h.0, encodable_joined ps qs h.1 k)

releases_size : (ids : List ℕ) → packets_size (map packets.PubRel ids) ≡ length ids * 7
releases_size [] = refl
releases_size (i ∷ ids) = let rest = releases_size ids in omega arith

releases_encodable : (ids : List ℕ) → AreEncodable (map packets.PubRel ids)
releases_encodable [] = tt
releases_encodable (i ∷ ids) = (omega arith, releases_encodable ids)

pub resent_size : (b : SenderBook) → packets_size (resent b) ≡ length b.released * 7 + packets_size (published b.entries)
resent_size b =
    let parts = sizes_joined (map packets.PubRel b.released) (published b.entries) in
    let first = releases_size b.released in
    omega arith

-- The sizes of its parts.
pub resent_by : (b : SenderBook) (es : List SenderEntry) (count size : ℕ) → es ≡ b.entries → count ≡ length b.released → size ≡ packets_size (published es) → count * 7 + size ≡ packets_size (resent b)
resent_by b es count size is counted sized =
    let whole = resent_size b in
    let same = ap (λ (es : List SenderEntry). packets_size (published es)) is in
    omega arith

-- The value of a sum that fits into `usize`.
pub sum_is : (o : Option ℕ) (P : Type 0) (v w : ℕ) → SomeIff o P v → v ≡ w → IfSome o (λ x. x ≡ w)
sum_is (Some x) P v w h e = h.1 ∙ e
sum_is None P v w h e = tt

pub always : {A : Type 0} (o : Option A) (P : Type 0) → P → IfSome o (λ x. P)
always (Some x) P h = h
always None P h = tt

pub resent_encodable : (b : SenderBook) → AreEncodable (published b.entries) → AreEncodable (resent b)
resent_encodable b h = encodable_joined (map packets.PubRel b.released) (published b.entries) (releases_encodable b.released) h

fits_kept : (q : Qos) (d : Delivery) → same_qos Q0 q ≡ false → fits_delivery q (Some d) ≡ true
fits_kept Q0 d h = absurd cc
fits_kept Q1 d h = refl
fits_kept Q2 d h = refl

either_none : (a b : Bool) → (a || b) ≡ false → a ≡ false
either_none true b h = absurd cc
either_none false b h = refl

-- the PUBLISH of the first of them
pub first_size : (e : SenderEntry) (es all : List SenderEntry) → all ≡ e ∷ es → list_any (λ (e : SenderEntry). same_qos Q0 e.message.qos) all ≡ false → length (fields (publish_packet e.id e.sent e.message)) ≡ publish_size e.message
first_size e es all is none =
    let free = either_none (same_qos Q0 e.message.qos) (list_any (λ (e : SenderEntry). same_qos Q0 e.message.qos) es) (ap (list_any (λ (e : SenderEntry). same_qos Q0 e.message.qos)) (sym is) ∙ none) in
    laws.publish e.message (Some (record { id = e.id; dup = e.sent })) (fits_kept e.message.qos (record { id = e.id; dup = e.sent }) free)

-- ---- a packet that a server processes

pub packet_room : {E : Type 0} (r : Result PacketOutcome E) (now : ℕ) (p : Packet) (old new : EndState) (ms : List Message) (more : ℕ) → (is_live old.end.state ≡ true → IfOk r (λ o. TakesPacket now p o old new)) → OnErr r (new ≡ old) → is_up old.end.state ≡ true
    → HasRoom ms (packets_size (server_gets p old.end).out + more) old → HasRoom ms more new
packet_room (Ok o) now p old new ms more takes stays up h =
    let t = takes (up_is_live old.end.state up) in
    keeps_room (server_gets p old.end).out ms more old new t.out (ap (λ (s : EndState). s.room) t.state)
    (subst (λ (b : Bool). size_at_once new.end.state ms ≤ cond b (publishes_size ms) 0) (sym up) (at_most_all new.end.state ms)) h
packet_room (Err x) now p old new ms more takes stays up h =
    subst (λ (s : EndState). HasRoom ms more s) (sym stays) (record { messages = h.messages; bytes = let had = h.bytes in omega arith })

-- If the message stays with the caller.
pub publish_room : {E : Type 0} (r : Result PublishOutcome E) (now : ℕ) (m : Message) (p : Packet) (old new : EndState) (ms : List Message) (more : ℕ)
    → (is_live old.end.state ≡ true → IfOk r (λ h. TakesPacket now p (outcome_of h m) old new)) → OnErr r (new ≡ old) → is_up old.end.state ≡ true
    → HasRoom ms (packets_size (server_gets p old.end).out + more) old → HasRoom ms more new
publish_room r now m p old new ms more takes stays =
    packet_room (told_of m r) now p old new ms more (λ live. ok_told m (λ o. TakesPacket now p o old new) r (takes live)) (err_told m (new ≡ old) r stays)

pub rises_room : {E : Type 0} (r : Result PacketOutcome E) (now : ℕ) (c : Connect) (p : Packet) (old new : EndState) (ms : List Message) (more : ℕ) → p ≡ packets.Connect c → AwaitsConnect old → HasConnectRoom c ms more old
    → (is_live old.end.state ≡ true → IfOk r (λ o. TakesPacket now p o old new)) → (old.end.state ≡ Connecting → AreEncodable (server_gets p old.end).out → FitsRoom (server_gets p old.end).out old → IsOk r) → IsOk r × HasRoom ms more new
rises_room (Ok o) now c p old new ms more is w h takes within =
    let t = subst (λ (q : Packet). TakesPacket now q o old new) is (takes (ap is_live w.state)) in
    (refl, risen_room now c o ms more old new t w h)
rises_room (Err x) now c p old new ms more is w h takes within =
    let bad : false ≡ true = within w.state (subst (λ (q : Packet). AreEncodable (server_gets q old.end).out) (sym is) (rise_encodes c ms more old w h))
    (subst (λ (q : Packet). FitsRoom (server_gets q old.end).out old) (sym is) (rise_fits c ms more old w h)) in
    absurd cc
