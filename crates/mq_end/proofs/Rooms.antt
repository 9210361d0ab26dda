-- The room of an end, and output within it.
use Rattle.std.proofs.Common.{◌≡◌, ◌⊎◌, inl, inr, ◌≤◌, ◌+◌, ◌-◌, ℕ, Bool, true, false, not, ◌&&◌, ◌||◌, eqb, cond, List, [], ◌∷◌, ◌++◌, map, length, filter, Option, Some, None, refl, sym, ap, subst, ◌∙◌, arith}
use Rattle.std.specs.List.{list_any}
use Rattle.std.proofs.Math.Dec.{eqb-suc-zero}
use Rattle.std.proofs.lemmas.List.{length-append}
use Rattle.mq_topic.specs.declared.qos.Qos.{Qos}
use Rattle.mq_topic.specs.declared.qos.Qos.TheVariants.{Q0, Q1, Q2}
use Rattle.mq_packet.specs.declared.message.Message.{Message}
use Rattle.mq_packet.specs.declared.packet.Packet.{Packet}
use Rattle.mq_packet.specs.declared.packet.Packet.TheVariants as packets
use Rattle.mq_packet.specs.Publication.{fits_delivery}
use Rattle.mq_packet.specs.Encoding.{Encodes, fields}
use Rattle.mq_flow.specs.declared.entry.SenderEntry.{SenderEntry}
use Rattle.mq_flow.specs.Sender.{publish_packet}
use Rattle.mq_end.specs.declared.state.State.{State}
use Rattle.mq_end.specs.declared.state.State.TheVariants.{Disconnected, Connecting, Connected}
use Rattle.mq_end.specs.End.{End, Reply, closes, is_live, is_up}
use Rattle.mq_end.specs.Both.{has_identifier, publishes_at}
use Rattle.mq_end.specs.Sizes.{publish_size}
use Rattle.mq_end.specs.State.{EndState, Room, EncodesAll, PutsOut}
use Rattle.mq_end.specs.Publishing.{Accepts, room_left}
use Rattle.mq_end.specs.Ready.{AreEncodable, CanSend, FitsRoom, HasRoom, whole_size, packets_size, publishes_size, size_at_once}
use Rattle.mq_end.specs.declared.happening.Happening.{Happening}
use Rattle.mq_end.specs.declared.reason.CloseReason.{CloseReason}
use Rattle.mq_end.specs.declared.reason.CloseReason.TheVariants as reasons
use Rattle.mq_end.specs.declared.refusal.PublishRefusal.{PublishRefusal}
use Rattle.mq_end.specs.declared.refusal.PublishRefusal.TheVariants as refusals
use Rattle.mq_end.specs.Server.{server_gets}
use Rattle.mq_end.specs.Receiving.{TakesOne}
use Rattle.mq_end.proofs.Measures.{laws}

-- ---- the tests of messages

pub any_or_none : (b : Bool) (ms : List Message) → list_any (λ m. b) ms ≡ (b && not (eqb (length ms) 0))
any_or_none true [] = refl
any_or_none true (m ∷ ms) = sym (ap not (eqb-suc-zero (length ms)))
any_or_none false [] = refl
any_or_none false (m ∷ ms) = any_or_none false ms

pub any_while : (up : Bool) (ms : List Message) → list_any (λ m. not (has_identifier m.qos) && not up) ms ≡ (not up && list_any (λ m. not (has_identifier m.qos)) ms)
any_while up [] = none up
  where
    none : (up : Bool) → false ≡ (not up && false)
    none true = refl
    none false = refl
any_while up (m ∷ ms) = ap (λ (b : Bool). (not (has_identifier m.qos) && not up) || b) (any_while up ms) ∙ both up (not (has_identifier m.qos)) _
  where
    both : (up a b : Bool) → ((a && not up) || (not up && b)) ≡ (not up && (a || b))
    both true true b = refl
    both true false b = refl
    both false true b = refl
    both false false b = refl

-- ---- bytes

pub encoded_within : (p : Packet) (b : List ℕ) → Encodes p b → length b ≤ whole_size (length (fields p))
encoded_within p b h =
    let few : length h.len ≤ 4 = h.formed.1 in
    let all = ap length h.bytes in
    let parts = length-append h.len (fields p) in
    omega arith

all_within : (ps : List Packet) (b : List ℕ) → EncodesAll ps b → length b ≤ packets_size ps
all_within [] b h = let e = ap length h in omega arith
all_within (p ∷ ps) b h =
    let e = ap length h.4 ∙ length-append h.0 h.1 in
    let one = encoded_within p h.0 h.2 in
    let rest = all_within ps h.1 h.3 in
    omega arith

pub put_within : (ps : List Packet) (old new : List ℕ) → PutsOut ps old new → length new ≤ length old + packets_size ps
put_within ps old new h =
    let e = ap length h.2 ∙ length-append old h.0 in
    let few = all_within ps h.0 h.1 in
    omega arith

-- the bytes of a packet behind others
pub behind_within : (p : Packet) (old new : List ℕ) → (b : List ℕ) × Encodes p b × (new ≡ old ++ b) → length new ≤ length old + whole_size (length (fields p))
behind_within p old new h =
    let e = ap length h.2 ∙ length-append old h.0 in
    let few = encoded_within p h.0 h.1 in
    omega arith

-- Packets with room can be sent.
pub fits_sends : (ps : List Packet) (s : EndState) → FitsRoom ps s → CanSend ps s
fits_sends [] s h = tt
fits_sends (p ∷ ps) s h = h

pub sizes_joined : (ps qs : List Packet) → packets_size (ps ++ qs) ≡ packets_size ps + packets_size qs
sizes_joined [] qs = omega arith
sizes_joined (p ∷ ps) qs = let rest = sizes_joined ps qs in omega arith

pub second_encodable : (ps qs : List Packet) → AreEncodable (ps ++ qs) → AreEncodable qs
second_encodable [] qs h = h
second_encodable (p ∷ ps) qs h = second_encodable ps qs h.1

-- the PUBLISHes of messages that are kept
abbrev pub published : List SenderEntry → List Packet
published es = map (λ (e : SenderEntry). publish_packet e.id e.sent e.message) es

pub at_most_all : (s : State) (ms : List Message) → size_at_once s ms ≤ publishes_size ms
at_most_all Disconnected ms = omega arith
at_most_all Connecting ms = omega arith
at_most_all Connected ms = omega arith

-- The room behind sent packets.
pub keeps_room : (ps : List Packet) (ms : List Message) (more : ℕ) (old new : EndState) → PutsOut ps old.output new.output → new.room ≡ old.room → size_at_once new.end.state ms ≤ size_at_once old.end.state ms
    → HasRoom ms (packets_size ps + more) old → HasRoom ms more new
keeps_room ps ms more old new out same less h = record {
  messages = subst (λ (r : Room). length (filter (λ m. has_identifier m.qos) ms) ≤ r.messages) (sym same) h.messages;
  bytes =
      let grown = put_within ps old.output new.output out in
      let bytes = ap (λ (r : Room). r.bytes) same in
      let had = h.bytes in
      omega arith;
}

-- ---- a message that is published

packet_size : (m : Message) (p : Packet) → length (fields p) ≡ publish_size m → (up : Bool) → packets_size (cond up (p ∷ []) []) ≤ cond up (publishes_size (m ∷ [])) 0
packet_size m p e true = omega arith
packet_size m p e false = omega arith

published_size : (q : Qos) (i : ℕ) (m : Message) (e : End) → q ≡ m.qos → (has_identifier q ≡ false → is_up e.state ≡ true) → packets_size (publishes_at q i m e).out ≤ size_at_once e.state (m ∷ [])
published_size Q0 i m e is up =
    let p : Packet = packets.Publish (record { message = m; delivery = None }) in
    let size = laws.publish m None (subst (λ (q : Qos). fits_delivery q None ≡ true) is refl) in
    subst (λ (b : Bool). packets_size (p ∷ []) ≤ cond b (publishes_size (m ∷ [])) 0) (sym (up refl)) (packet_size m p size true)
published_size Q1 i m e is up =
    packet_size m (publish_packet i false m) (laws.publish m (Some (record { id = i; dup = false })) (subst (λ (q : Qos). fits_delivery q (Some (record { id = i; dup = false })) ≡ true) is refl)) (is_up e.state)
published_size Q2 i m e is up =
    packet_size m (publish_packet i false m) (laws.publish m (Some (record { id = i; dup = false })) (subst (λ (q : Qos). fits_delivery q (Some (record { id = i; dup = false })) ≡ true) is refl)) (is_up e.state)

published_state : (q : Qos) (i : ℕ) (m : Message) (e : End) → (publishes_at q i m e).end.state ≡ e.state
published_state Q0 i m e = refl
published_state Q1 i m e = refl
published_state Q2 i m e = refl

place_taken : (b : Bool) (m : Message) (ms : List Message) (n : ℕ) → length (cond b (m ∷ ms) ms) ≤ n → length ms ≤ cond b (n - 1) n
place_taken true m ms n h = omega arith
place_taken false m ms n h = h

sizes_parted : (s : State) (m : Message) (ms : List Message) → size_at_once s (m ∷ ms) ≡ size_at_once s (m ∷ []) + size_at_once s ms
sizes_parted Disconnected m ms = refl
sizes_parted Connecting m ms = refl
sizes_parted Connected m ms = omega arith

-- the room for the others
pub accepted_room : (answer : Option ℕ) (m : Message) (rest : List Message) (more : ℕ) (old new : EndState) → (has_identifier m.qos ≡ false → is_up old.end.state ≡ true) → Accepts answer m old new
    → HasRoom (m ∷ rest) more old → HasRoom rest more new
accepted_room answer m rest more old new up a h = record {
  messages =
      subst (λ (r : Room). length (filter (λ m. has_identifier m.qos) rest) ≤ r.messages) (sym room)
      (place_taken (has_identifier m.qos) m (filter (λ m. has_identifier m.qos) rest) old.room.messages h.messages);
  bytes =
      let grown = put_within (publishes_at m.qos a.id m old.end).out old.output new.output a.out in
      let few = published_size m.qos a.id m old.end refl up in
      let parts = sizes_parted old.end.state m rest in
      let same = ap (λ (s : State). size_at_once s rest) state in
      let bytes = ap (λ (r : Room). r.bytes) room in
      let had = h.bytes in
      omega arith;
}
  where
    room : new.room ≡ room_left m.qos old.room
    room = ap (λ (s : EndState). s.room) a.state

    state : new.end.state ≡ old.end.state
    state = ap (λ (s : EndState). s.end.state) a.state ∙ published_state m.qos a.id m old.end

-- the room for the first of them
pub first_room : (m : Message) (rest : List Message) (more : ℕ) (s : EndState) → HasRoom (m ∷ rest) more s → HasRoom (m ∷ []) 0 s
first_room m rest more s h = record {
  messages = let had = h.messages in let less = one_of (has_identifier m.qos) m (filter (λ m. has_identifier m.qos) rest) in omega arith;
  bytes =
      let parts = sizes_parted s.end.state m rest in
      let had = h.bytes in
      omega arith;
}
  where
    one_of : (b : Bool) (m : Message) (ms : List Message) → length (cond b (m ∷ []) []) ≤ length (cond b (m ∷ ms) ms)
    one_of true m ms = omega arith
    one_of false m ms = omega arith

-- ---- a packet that comes

pub up_is_live : (s : State) → is_up s ≡ true → is_live s ≡ true
up_is_live Disconnected h = absurd cc
up_is_live Connecting h = absurd cc
up_is_live Connected h = refl

-- The room for the others, if the response has room too.
pub taken_room : (now : ℕ) (p : Packet) (old new : EndState) (happenings : List Happening) (acknowledged : List ℕ) (closed : Option CloseReason) (ms : List Message) (more : ℕ) → TakesOne now p old new happenings acknowledged closed → is_up old.end.state ≡ true
    → HasRoom ms (packets_size (server_gets p old.end).out + more) old → HasRoom ms more new
taken_room now p old new happenings acknowledged closed ms more t up h = by t.does
  where
    room : new.room ≡ old.room
    room = ap (λ (s : EndState). s.room) t.state

    less : size_at_once new.end.state ms ≤ size_at_once old.end.state ms
    less = subst (λ (b : Bool). size_at_once new.end.state ms ≤ cond b (publishes_size ms) 0) (sym up) (at_most_all new.end.state ms)

    by : (t.reply ≡ server_gets p old.end) ⊎ (t.reply ≡ closes reasons.Memory old.end) → HasRoom ms more new
    by (inl same) = keeps_room (server_gets p old.end).out ms more old new (subst (λ (r : Reply). PutsOut r.out old.output new.output) same t.shows.out) room less h
    by (inr same) =
        keeps_room [] ms more old new (subst (λ (r : Reply). PutsOut r.out old.output new.output) same t.shows.out) room less
        (record { messages = h.messages; bytes = let had = h.bytes in omega arith })

-- ---- the refusals

pub none_known : (known : Bool) (o : Option PublishRefusal) → cond known o (Some refusals.NoSession) ≡ None → o ≡ None
none_known true o h = h
none_known false o h = absurd cc
