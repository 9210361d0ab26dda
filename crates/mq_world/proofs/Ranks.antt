-- Packets cause only packets of a lower rank, so queues become empty.
use Rattle.std.proofs.Common.{◌≡◌, ℕ, suc, ◌<◌, ◌≤◌, Bool, true, cond, Option, Some, None, List, [], ◌∷◌, map, length, refl, sym, ap, subst, ◌∙◌, arith}
use Rattle.std.proofs.lemmas.Bool.{cond_both}
use Rattle.std.specs.List.{filter_map, cons_option}
use Rattle.mq_topic.specs.declared.qos.Qos.{Qos}
use Rattle.mq_topic.specs.declared.qos.Qos.TheVariants.{Q0, Q1, Q2}
use Rattle.mq_packet.specs.declared.message.Message.{Message}
use Rattle.mq_packet.specs.declared.publish.Delivery.{Delivery}
use Rattle.mq_packet.specs.declared.packet.Packet.{Packet}
use Rattle.mq_packet.specs.declared.packet.Packet.TheVariants as packets
use Rattle.mq_flow.specs.declared.entry.SenderEntry.{SenderEntry}
use Rattle.mq_flow.specs.Window.{Spans}
use Rattle.mq_flow.specs.Sender.{SenderBook, is_awaited, resent, publish_packet}
use Rattle.mq_end.specs.declared.state.State.{State}
use Rattle.mq_end.specs.declared.state.State.TheVariants.{Disconnected, Connecting, Connected}
use Rattle.mq_end.specs.declared.reason.CloseReason.TheVariants as reasons
use Rattle.mq_end.specs.End.{End, Reply, closes}
use Rattle.mq_end.specs.Both.{stores, publish_gets, flow_gets, has_identifier}
use Rattle.mq_end.specs.Client.{client_up_gets}
use Rattle.mq_end.specs.Server.{server_up_gets}
use Rattle.mq_world.specs.declared.side.Side.{Side}
use Rattle.mq_world.specs.declared.side.Side.TheVariants.{Client, Server}
use Rattle.mq_world.specs.Half.{Half, Accepted, Arrives, joined, kept, put, moved, gets}
use Rattle.mq_world.proofs.Lists.{Each, each_append, each_map, each_mapped}
use Rattle.mq_world.proofs.Queues.{as_pubrec, as_puback, as_first, as_second, first_of, second_of}
use Rattle.mq_world.proofs.Both.{IsHeld, Both}
use Rattle.mq_world.proofs.Steps.{moved_keeps}
use Rattle.mq_world.proofs.Together.{arrive_at}
use Rattle.mq_world.proofs.Windows.{FitsAs, FitsIn, fits_arriving, moved_window}

abbrev pub publish_rank : Qos → Option Delivery → ℕ
publish_rank Q0 None = 3
publish_rank Q1 (Some d) = 3
publish_rank Q2 (Some d) = 3
publish_rank q d = 9

abbrev pub rank : Packet → ℕ
rank (packets.Publish p) = publish_rank p.message.qos p.delivery
rank (packets.PubAck i) = 2
rank (packets.PubRec i) = 2
rank (packets.PubRel i) = 1
rank (packets.PubComp i) = 0
rank p = 9

abbrev pub Below : ℕ → List Packet → Type 0
Below n q = Each (λ p. rank p < n) q

pub below_more : (n m : ℕ) (q : List Packet) → n ≤ m → Below n q → Below m q
below_more n m [] le b = tt
below_more n m (p ∷ q) le b = (let lt : rank p < n = b.0 in omega arith, below_more n m q le b.1)

pub below_none : (q : List Packet) → Below 0 q → q ≡ []
below_none [] b = refl
below_none (p ∷ q) b = let lt : rank p < 0 = b.0 in absurd (omega arith)

-- ---- A connected side stays connected, and responds with lower ranks

pub record Stays (n : ℕ) (e : End) (r : Reply) : Type 0 where
  pub state : r.end.state ≡ e.state
  pub out : Below n r.out

publish_stays : (n : ℕ) (q : Qos) (d : Option Delivery) (m : Message) (e : End) → FitsAs q d e.window e.received → publish_rank q d < suc n → n ≤ 3
    → Stays n e (publish_gets q d m e)
publish_stays n Q0 None m e f lt le = record { state = refl; out = tt }
publish_stays n Q1 (Some d) m e f lt le = record { state = refl; out = (omega arith, tt) }
publish_stays n Q2 (Some d) m e f lt le =
    let P : Bool → Type 0 = λ b. Stays n e (cond b (stores d.id m e) (closes reasons.Window e)) in
    subst P (sym f) (record { state = refl; out = (omega arith, tt) })
publish_stays n q d m e f lt le = absurd (omega arith)

flow_stays : (n : ℕ) (p : Packet) (e : End) → FitsIn p e.window e.received → rank p < suc n → n ≤ 3 → Stays n e (flow_gets p e)
flow_stays n (packets.Publish p) e f lt le = publish_stays n p.message.qos p.delivery p.message e f lt le
flow_stays n (packets.PubAck i) e f lt le = record { state = refl; out = tt }
flow_stays n (packets.PubRec i) e f lt le =
    record { state = refl; out = cond_both (is_awaited Q2 i e.book.entries) (packets.PubRel i ∷ []) [] (Below n) (λ t. (omega arith, tt)) (λ f. tt) }
flow_stays n (packets.PubRel i) e f lt le = record { state = refl; out = (omega arith, tt) }
flow_stays n (packets.PubComp i) e f lt le = record { state = refl; out = tt }
flow_stays n p e f lt le = absurd (omega arith)

client_stays : (n : ℕ) (p : Packet) (e : End) → FitsIn p e.window e.received → rank p < suc n → n ≤ 3 → Stays n e (client_up_gets p e)
client_stays n (packets.SubAck i codes) e f lt le = absurd (omega arith)
client_stays n (packets.UnsubAck i) e f lt le = absurd (omega arith)
client_stays n packets.PingResp e f lt le = absurd (omega arith)
client_stays n p e f lt le = flow_stays n p e f lt le

server_stays : (n : ℕ) (p : Packet) (e : End) → FitsIn p e.window e.received → rank p < suc n → n ≤ 3 → Stays n e (server_up_gets p e)
server_stays n (packets.Subscribe i requests) e f lt le = absurd (omega arith)
server_stays n (packets.Unsubscribe i filters) e f lt le = absurd (omega arith)
server_stays n packets.PingReq e f lt le = absurd (omega arith)
server_stays n packets.Disconnect e f lt le = absurd (omega arith)
server_stays n p e f lt le = flow_stays n p e f lt le

stays : (side : Side) (n : ℕ) (p : Packet) (e : End) → FitsIn p e.window e.received → rank p < suc n → n ≤ 3
    → Stays n (record e { state = Connected }) (gets side p (record e { state = Connected }))
stays Client n p e f lt le = client_stays n p (record e { state = Connected }) f lt le
stays Server n p e f lt le = server_stays n p (record e { state = Connected }) f lt le

-- ---- One side processes all packets of its queue

pub record Draining (capacity : ℕ) (n m : ℕ) (x y : Half) (old_x old_y : Accepted) : Type 0 where
  pub both : Both capacity x y
  pub up_x : x.end.state ≡ Connected
  pub up_y : y.end.state ≡ Connected
  pub spans_x : Spans x.end.window capacity
  pub spans_y : Spans y.end.window capacity
  pub below_x : Below n x.coming
  pub below_y : Below m y.coming
  pub same_x : x.accepted ≡ old_x
  pub same_y : y.accepted ≡ old_y

below_joined : (st : State) (m : ℕ) (q ps : List Packet) → Below m q → Below m ps → Below m (joined st q ps)
below_joined Disconnected m q ps a b = a
below_joined Connecting m q ps a b = each_append (λ p. rank p < m) q ps a b
below_joined Connected m q ps a b = each_append (λ p. rank p < m) q ps a b

-- after one arrival
abbrev pub Next : ℕ → ℕ → ℕ → Side → Half → Half → Accepted → Accepted → List Packet → Type 0
Next capacity n m side x y old_x old_y rest =
    Draining capacity (suc n) m (moved side Arrives x).half (put (moved side Arrives x).out y) old_x old_y × ((moved side Arrives x).half.coming ≡ rest)

step_up : (capacity n m : ℕ) (side : Side) (h y : Half) (old_x old_y : Accepted) (p : Packet) (rest : List Packet) → n ≤ m → n ≤ 3
    → Draining capacity (suc n) m (record h { end = record h.end { state = Connected }; coming = p ∷ rest }) y old_x old_y
    → Next capacity n m side (record h { end = record h.end { state = Connected }; coming = p ∷ rest }) y old_x old_y rest
step_up capacity n m side h y old_x old_y p rest le three d =
    let x : Half = record h { end = record h.end { state = Connected }; coming = p ∷ rest } in
    let r : Reply = gets side p x.end in
    let s : Stays n x.end r = stays side n p h.end (fits_arriving capacity h y p rest d.both d.spans_x) d.below_x.0 three in
    let left : kept r.end.state rest ≡ rest = ap (λ (st : State). kept st rest) s.state in (
      record {
        both = moved_keeps 0 capacity side Arrives x y tt d.both;
        up_x = s.state;
        up_y = d.up_y;
        spans_x = subst (λ (o : Option ℕ). Spans o capacity) (sym (moved_window side Arrives x)) d.spans_x;
        spans_y = d.spans_y;
        below_x = subst (λ (q : List Packet). Below (suc n) q) (sym left) d.below_x.1;
        below_y = below_joined y.end.state m y.coming r.out d.below_y (below_more n m r.out le s.out);
        same_x = d.same_x;
        same_y = d.same_y;
      },
      left,
    )

step : (capacity n m : ℕ) (side : Side) (x y : Half) (old_x old_y : Accepted) (p : Packet) (rest : List Packet) → n ≤ m → n ≤ 3 → x.coming ≡ p ∷ rest
    → Draining capacity (suc n) m x y old_x old_y → Next capacity n m side x y old_x old_y rest
step capacity n m side x y old_x old_y p rest le three is d =
    let P : State → List Packet → Type 0 =
    λ st q. Draining capacity (suc n) m (record x { end = record x.end { state = st }; coming = q }) y old_x old_y
    → Next capacity n m side (record x { end = record x.end { state = st }; coming = q }) y old_x old_y rest in
    let lit : P Connected x.coming = subst (λ (q : List Packet). P Connected q) (sym is) (step_up capacity n m side x y old_x old_y p rest le three) in
    subst (λ (st : State). P st x.coming) (sym d.up_x) lit d

pub drained : (capacity n m : ℕ) (side : Side) (q : List Packet) (x y : Half) (old_x old_y : Accepted) → n ≤ m → n ≤ 3 → x.coming ≡ q
    → Draining capacity (suc n) m x y old_x old_y
    → Draining capacity 0 m (arrive_at (length q) side x y).near (arrive_at (length q) side x y).far old_x old_y
drained capacity n m side [] x y old_x old_y le three is d = record {
  both = d.both;
  up_x = d.up_x;
  up_y = d.up_y;
  spans_x = d.spans_x;
  spans_y = d.spans_y;
  below_x = subst (λ (q : List Packet). Below 0 q) (sym is) tt;
  below_y = d.below_y;
  same_x = d.same_x;
  same_y = d.same_y;
}
drained capacity n m side (p ∷ rest) x y old_x old_y le three is d =
    let s = step capacity n m side x y old_x old_y p rest le three is d in
    drained capacity n m side rest (moved side Arrives x).half (put (moved side Arrives x).out y) old_x old_y le three s.1 s.0

-- ---- Retransmissions

held_rank : (e : SenderEntry) → IsHeld e → rank (publish_packet e.id e.sent e.message) < 4
held_rank e h = by_qos e.message.qos h
  where
    by_qos : (q : Qos) → has_identifier q ≡ true → publish_rank q (Some (record { id = e.id; dup = e.sent })) < 4
    by_qos Q0 h = cc
    by_qos Q1 h = omega arith
    by_qos Q2 h = omega arith

pub resent_below : (b : SenderBook) → Each IsHeld b.entries → Below 4 (resent b)
resent_below b h =
    each_append (λ p. rank p < 4) (map packets.PubRel b.released) (map (λ (e : SenderEntry). publish_packet e.id e.sent e.message) b.entries)
    (each_map (λ p. rank p < 4) packets.PubRel b.released (λ i. omega arith))
    (each_mapped IsHeld (λ p. rank p < 4) (λ (e : SenderEntry). publish_packet e.id e.sent e.message) b.entries held_rank h)

-- ---- Packets that can't be in a queue of low ranks

none_below : {A : Type 0} (n : ℕ) (f : Packet → Option A) → ((p : Packet) → rank p < n → f p ≡ None) → (q : List Packet) → Below n q → filter_map f q ≡ []
none_below n f h [] b = refl
none_below {A} n f h (p ∷ q) b = ap (λ (o : Option A). cons_option o (filter_map f q)) (h p b.0) ∙ none_below n f h q b.1

no_second_of : (q : Qos) (d : Option Delivery) (m : Message) → publish_rank q d < 2 → second_of q d m ≡ None
no_second_of Q0 None m lt = refl
no_second_of Q1 (Some d) m lt = refl
no_second_of Q2 (Some d) m lt = absurd (omega arith)
no_second_of q d m lt = absurd (omega arith)

no_first_of : (q : Qos) (d : Option Delivery) (m : Message) → publish_rank q d < 2 → first_of q d m ≡ None
no_first_of Q0 None m lt = refl
no_first_of Q1 (Some d) m lt = absurd (omega arith)
no_first_of Q2 (Some d) m lt = refl
no_first_of q d m lt = absurd (omega arith)

no_second : (p : Packet) → rank p < 2 → as_second p ≡ None
no_second (packets.Publish p) lt = no_second_of p.message.qos p.delivery p.message lt
no_second p lt = refl

no_first : (p : Packet) → rank p < 2 → as_first p ≡ None
no_first (packets.Publish p) lt = no_first_of p.message.qos p.delivery p.message lt
no_first p lt = refl

no_pubrec : (p : Packet) → rank p < 2 → as_pubrec p ≡ None
no_pubrec (packets.PubRec i) lt = absurd (omega arith)
no_pubrec p lt = refl

no_puback : (p : Packet) → rank p < 2 → as_puback p ≡ None
no_puback (packets.PubAck i) lt = absurd (omega arith)
no_puback p lt = refl

pub low_second : (q : List Packet) → Below 2 q → filter_map as_second q ≡ []
low_second q b = none_below 2 as_second no_second q b

pub low_first : (q : List Packet) → Below 2 q → filter_map as_first q ≡ []
low_first q b = none_below 2 as_first no_first q b

pub low_pubrec : (q : List Packet) → Below 2 q → filter_map as_pubrec q ≡ []
low_pubrec q b = none_below 2 as_pubrec no_pubrec q b

pub low_puback : (q : List Packet) → Below 2 q → filter_map as_puback q ≡ []
low_puback q b = none_below 2 as_puback no_puback q b
