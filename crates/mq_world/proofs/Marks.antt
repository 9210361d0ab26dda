-- If the client's session is established, or an accepting CONNACK is in flight to it, the server
-- has a session.
use Rattle.std.proofs.Common.{◌≡◌, ℕ, Bool, true, false, not, ◌&&◌, eqb, Option, Some, None, List, [], ◌∷◌, length, refl, sym, subst, ◌∙◌}
use Rattle.std.proofs.lemmas.Bool.{cond_both}
use Rattle.mq_topic.specs.declared.qos.Qos.{Qos}
use Rattle.mq_topic.specs.declared.qos.Qos.TheVariants.{Q0, Q1, Q2}
use Rattle.mq_packet.specs.declared.message.Message.{Message}
use Rattle.mq_packet.specs.declared.publish.Delivery.{Delivery}
use Rattle.mq_packet.specs.declared.connect.Connect.{Connect}
use Rattle.mq_packet.specs.declared.connack.ConnAck.{ConnAck}
use Rattle.mq_packet.specs.declared.connack.ConnAck.TheVariants as connacks
use Rattle.mq_packet.specs.declared.connack.RefusalCode.TheVariants.{IdentifierRejected}
use Rattle.mq_packet.specs.declared.packet.Packet.{Packet}
use Rattle.mq_packet.specs.declared.packet.Packet.TheVariants as packets
use Rattle.mq_flow.specs.Window.{fits_window}
use Rattle.mq_flow.specs.Sender.{release, awaits_suback, awaits_unsuback, is_awaited, publish_packet}
use Rattle.mq_end.specs.declared.state.State.{State}
use Rattle.mq_end.specs.declared.state.State.TheVariants.{Disconnected, Connecting, Connected}
use Rattle.mq_end.specs.declared.happening.Happening.TheVariants as happens
use Rattle.mq_end.specs.declared.reason.CloseReason.TheVariants as reasons
use Rattle.mq_end.specs.End.{End, Reply, is_up, reports_event, closes, becomes_connected, renewed}
use Rattle.mq_end.specs.Both.{stores, publish_gets, flow_gets, publishes_at}
use Rattle.mq_end.specs.Client.{client_open_gets, client_up_gets, client_gets_in, connects}
use Rattle.mq_end.specs.Server.{connect_gets, refuses, server_open_gets, server_up_gets, server_gets_in}
use Rattle.mq_world.specs.declared.side.Side.TheVariants.{Client, Server}
use Rattle.mq_world.specs.Half.{Half, Action, Publishes, Arrives, Drops, Leaves, Pings, joined, kept, put, arrival, May, moved}
use Rattle.mq_world.specs.Machine.{Machine, Move, By, Opens, Restarts, Run, IsAllowed, after, blank_machine, first_packet, opened_client, opened_server}
use Rattle.mq_world.specs.Machine.{without_keep_alive}
use Rattle.mq_world.proofs.Lists.{Each, each_append}
use Rattle.mq_world.proofs.Both.{Both, upon}
use Rattle.mq_world.proofs.Whole.{after_keeps, blank_holds}

abbrev pub IsRefusal : ConnAck → Type 0
IsRefusal (connacks.Refused code) = Unit {0}
IsRefusal (connacks.Accepted present) = ⊥

abbrev pub IsNoConnack : Packet → Type 0
IsNoConnack (packets.ConnAck a) = IsRefusal a
IsNoConnack p = Unit {0}

abbrev pub Marks : Half → Half → Type 0
Marks c s = s.end.known ≡ false → (c.end.known ≡ false) × Each IsNoConnack c.coming

-- a side whose connection has clean session 0
abbrev pub keeping : Half → Half
keeping h = record h { end = record h.end { clean = false } }

-- ---- the client's mark stays without a CONNACK

publish_known : (q : Qos) (d : Option Delivery) (m : Message) (h : Half) (st : State) → (publish_gets q d m (upon h st []).end).end.known ≡ h.end.known
publish_known Q0 None m h st = refl
publish_known Q1 (Some d) m h st = refl
publish_known Q2 (Some d) m h st =
    cond_both (fits_window h.end.window d.id h.end.received) (stores d.id m (upon h st []).end) (closes reasons.Window (upon h st []).end)
    (λ r. r.end.known ≡ h.end.known) (λ t. refl) (λ f. refl)
publish_known q d m h st = refl

flow_known : (p : Packet) (h : Half) (st : State) → (flow_gets p (upon h st []).end).end.known ≡ h.end.known
flow_known (packets.Publish p) h st = publish_known p.message.qos p.delivery p.message h st
flow_known (packets.PubAck i) h st = refl
flow_known (packets.PubRec i) h st = refl
flow_known (packets.PubRel i) h st = refl
flow_known (packets.PubComp i) h st = refl
flow_known p h st = refl

client_open_known : (p : Packet) (h : Half) → IsNoConnack p → (client_open_gets p (upon h Connecting []).end).end.known ≡ h.end.known
client_open_known (packets.ConnAck (connacks.Refused code)) h n = refl
client_open_known (packets.ConnAck (connacks.Accepted present)) h n = absurd n
client_open_known p h n = refl

client_up_known : (p : Packet) (h : Half) → (client_up_gets p (upon h Connected []).end).end.known ≡ h.end.known
client_up_known (packets.SubAck i codes) h =
    cond_both (awaits_suback i (length codes) h.end.book) (reports_event (happens.SubAck i codes) (record (upon h Connected []).end { book = release i h.end.book }))
    (closes reasons.Unexpected (upon h Connected []).end) (λ r. r.end.known ≡ h.end.known) (λ t. refl) (λ f. refl)
client_up_known (packets.UnsubAck i) h =
    cond_both (awaits_unsuback i h.end.book) (reports_event (happens.UnsubAck i) (record (upon h Connected []).end { book = release i h.end.book }))
    (closes reasons.Unexpected (upon h Connected []).end) (λ r. r.end.known ≡ h.end.known) (λ t. refl) (λ f. refl)
client_up_known packets.PingResp h = refl
client_up_known p h = flow_known p h Connected

client_known : (st : State) (p : Packet) (h : Half) → IsNoConnack p → (client_gets_in st p (upon h st []).end).end.known ≡ h.end.known
client_known Disconnected p h n = refl
client_known Connecting p h n = client_open_known p h n
client_known Connected p h n = client_up_known p h

kept_no_connack : (st : State) (q : List Packet) → Each IsNoConnack q → Each IsNoConnack (kept st q)
kept_no_connack Disconnected q n = tt
kept_no_connack Connecting q n = n
kept_no_connack Connected q n = n

joined_no_connack : (st : State) (q ps : List Packet) → Each IsNoConnack q → Each IsNoConnack ps → Each IsNoConnack (joined st q ps)
joined_no_connack Disconnected q ps a b = a
joined_no_connack Connecting q ps a b = each_append IsNoConnack q ps a b
joined_no_connack Connected q ps a b = each_append IsNoConnack q ps a b

client_arrival : (st : State) (q : List Packet) (c s : Half) → Marks (upon c st q) s → Marks (arrival q Client (upon c st q)).half s
client_arrival st [] c s m = m
client_arrival st (p ∷ rest) c s m = λ k. (
  client_known st p c (m k).1.0 ∙ (m k).0,
  kept_no_connack (client_gets_in st p (upon c st []).end).end.state rest (m k).1.1,
)

published_known : (q : Qos) (i : ℕ) (m : Message) (e : End) → (publishes_at q i m e).end.known ≡ e.known
published_known Q0 i m e = refl
published_known Q1 i m e = refl
published_known Q2 i m e = refl

client_marks : (limit capacity : ℕ) (action : Action) (st : State) (q : List Packet) (c s : Half) → May limit capacity Client action (upon c st q)
    → Marks (upon c st q) s → Marks (moved Client action (upon c st q)).half s
client_marks limit capacity (Publishes i message) st q c s may m = λ k. (published_known message.qos i message (upon c st q).end ∙ (m k).0, (m k).1)
client_marks limit capacity Arrives st q c s may m = client_arrival st q c s m
client_marks limit capacity Drops st q c s may m = λ k. ((m k).0, tt)
client_marks limit capacity Leaves st q c s may m = λ k. ((m k).0, tt)
client_marks limit capacity Pings st q c s may m = m

-- ---- The server keeps its session, and a CONNACK is sent with it

publish_out : (q : Qos) (d : Option Delivery) (m : Message) (e : End) → Each IsNoConnack (publish_gets q d m e).out
publish_out Q0 None m e = tt
publish_out Q1 (Some d) m e = (tt, tt)
publish_out Q2 (Some d) m e =
    cond_both (fits_window e.window d.id e.received) (stores d.id m e) (closes reasons.Window e) (λ r. Each IsNoConnack r.out) (λ t. (tt, tt)) (λ f. tt)
publish_out q d m e = tt

flow_out : (p : Packet) (e : End) → Each IsNoConnack (flow_gets p e).out
flow_out (packets.Publish p) e = publish_out p.message.qos p.delivery p.message e
flow_out (packets.PubAck i) e = tt
flow_out (packets.PubRec i) e = cond_both (is_awaited Q2 i e.book.entries) (packets.PubRel i ∷ []) [] (Each IsNoConnack) (λ t. (tt, tt)) (λ f. tt)
flow_out (packets.PubRel i) e = (tt, tt)
flow_out (packets.PubComp i) e = tt
flow_out p e = tt

-- The effect of the server's reply on both.
abbrev pub Tells : Half → Reply → Type 0
Tells h r = r.end.known ≡ false → (h.end.known ≡ false) × Each IsNoConnack r.out

connect_tells : (c : Connect) (h : Half) → Tells h (connect_gets c (upon h Connecting []).end)
connect_tells c h =
    cond_both (not c.clean_session && eqb (length c.client_id) 0) (refuses IdentifierRejected (upon h Connecting []).end)
    (becomes_connected (packets.ConnAck (connacks.Accepted (not c.clean_session && h.end.known)) ∷ []) (not c.clean_session && h.end.known)
    (record (renewed c.clean_session (upon h Connecting []).end) { keep_alive = c.keep_alive }))
    (Tells h) (λ t k. (k, (tt, tt))) (λ f k. absurd (true_not k))
  where
    true_not : true ≡ false → ⊥
    true_not e = cc

server_open_tells : (p : Packet) (h : Half) → Tells h (server_open_gets p (upon h Connecting []).end)
server_open_tells (packets.Connect c) h = connect_tells c h
server_open_tells p h = λ k. (k, tt)

server_up_tells : (p : Packet) (h : Half) → Tells h (server_up_gets p (upon h Connected []).end)
server_up_tells (packets.Subscribe i requests) h = λ k. (k, tt)
server_up_tells (packets.Unsubscribe i filters) h = λ k. (k, tt)
server_up_tells packets.PingReq h = λ k. (k, (tt, tt))
server_up_tells packets.Disconnect h = λ k. (k, tt)
server_up_tells p h = λ k. (sym (flow_known p h Connected) ∙ k, flow_out p (upon h Connected []).end)

server_tells : (st : State) (p : Packet) (h : Half) → Tells h (server_gets_in st p (upon h st []).end)
server_tells Disconnected p h = λ k. (k, tt)
server_tells Connecting p h = server_open_tells p h
server_tells Connected p h = server_up_tells p h

server_arrival : (st : State) (q : List Packet) (c s : Half) → Marks c (upon s st q)
    → Marks (put (arrival q Server (upon s st q)).out c) (arrival q Server (upon s st q)).half
server_arrival st [] c s m = λ k. ((m k).0, joined_no_connack c.end.state c.coming [] (m k).1 tt)
server_arrival st (p ∷ rest) c s m = λ k. let t = server_tells st p s k in ((m t.0).0, joined_no_connack c.end.state c.coming _ (m t.0).1 t.1)

published_out : (q : Qos) (i : ℕ) (m : Message) (e : End) → Each IsNoConnack (publishes_at q i m e).out
published_out Q0 i m e = (tt, tt)
published_out Q1 i m e = cond_both (is_up e.state) (publish_packet i false m ∷ []) [] (Each IsNoConnack) (λ t. (tt, tt)) (λ f. tt)
published_out Q2 i m e = cond_both (is_up e.state) (publish_packet i false m ∷ []) [] (Each IsNoConnack) (λ t. (tt, tt)) (λ f. tt)

server_marks : (limit capacity : ℕ) (action : Action) (st : State) (q : List Packet) (c s : Half) → May limit capacity Server action (upon s st q)
    → Marks c (upon s st q) → Marks (put (moved Server action (upon s st q)).out c) (moved Server action (upon s st q)).half
server_marks limit capacity (Publishes i message) st q c s may m = λ k.
    let u = m (sym (published_known message.qos i message (upon s st q).end) ∙ k) in
    (u.0, joined_no_connack c.end.state c.coming _ u.1 (published_out message.qos i message (upon s st q).end))
server_marks limit capacity Arrives st q c s may m = server_arrival st q c s m
server_marks limit capacity Drops st q c s may m = λ k. ((m k).0, joined_no_connack c.end.state c.coming [] (m k).1 tt)
server_marks limit capacity Leaves st q c s may m = absurd may
server_marks limit capacity Pings st q c s may m = absurd may

-- ---- the run

after_marks : (limit capacity : ℕ) (w : Machine) (move : Move) → IsAllowed limit capacity w move → w.client.end.clean ≡ false
    → w.server.end.clean ≡ false → Marks w.client w.server → Marks (after w move).client (after w move).server
after_marks limit capacity w (By Client action) may kc ks m =
    let P : Bool → Type 0 =
    λ b. May limit capacity Client action (record w.client { end = record w.client.end { clean = b } })
    → Marks (moved Client action (record w.client { end = record w.client.end { clean = b } })).half w.server in
    subst P (sym kc) (λ may. client_marks limit capacity action w.client.end.state w.client.coming w.client w.server may m) may
after_marks limit capacity w (By Server action) may kc ks m =
    let P : Bool → Type 0 = λ b. May limit capacity Server action (record w.server { end = record w.server.end { clean = b } })
    → Marks (put (moved Server action (record w.server { end = record w.server.end { clean = b } })).out w.client)
    (moved Server action (record w.server { end = record w.server.end { clean = b } })).half in
    subst P (sym ks) (λ may. server_marks limit capacity action w.server.end.state w.server.coming w.client w.server may m) may
after_marks limit capacity w Opens may kc ks m =
    let P : Bool → Bool → Type 0 =
    λ b d. Marks (opened_client (record w.client { end = record w.client.end { clean = b } }))
    (opened_server (connects first_packet w.client.end).out (record w.server { end = record w.server.end { clean = d } })) in
    let half : P false w.server.end.clean = subst (λ (d : Bool). P false d) (sym ks) (λ k. ((m k).0, tt)) in
    subst (λ (b : Bool). P b w.server.end.clean) (sym kc) half
after_marks limit capacity w Restarts may kc ks m =
    let h : Half = without_keep_alive w.client in
    let P : Bool → Type 0 = λ b. Marks (moved Client Drops (record h { end = record h.end { clean = b } })).half w.server in
    subst P (sym kc) (client_marks limit capacity Drops h.end.state h.coming h w.server tt m)

-- both things that a run keeps
abbrev pub Well : ℕ → Machine → Type 0
Well capacity w = Both capacity w.client w.server × Marks w.client w.server

pub after_well : (limit capacity : ℕ) (w : Machine) (move : Move) → IsAllowed limit capacity w move → Well capacity w → Well capacity (after w move)
after_well limit capacity w move may h = (after_keeps limit capacity w move may h.0, after_marks limit capacity w move may h.0.kept_x h.0.kept_y h.1)

pub run_well : (limit capacity : ℕ) (w : Machine) (moves : List Move) (v : Machine) → Run limit capacity w moves v → Well capacity w → Well capacity v
run_well limit capacity w [] v run h = subst (λ (u : Machine). Well capacity u) (sym run) h
run_well limit capacity w (move ∷ moves) v run h = run_well limit capacity (after w move) moves v run.1 (after_well limit capacity w move run.0 h)

pub reached_well : (limit capacity : ℕ) (window : Option ℕ) (moves : List Move) (w : Machine) → Run limit capacity (blank_machine window) moves w
    → Well capacity w
reached_well limit capacity window moves w run = run_well limit capacity (blank_machine window) moves w run (blank_holds capacity window, λ k. (refl, tt))
