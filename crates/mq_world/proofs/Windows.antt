-- Receive windows over every run: they stay, and each packet fits one that is at least the
-- capacity.
use Rattle.std.proofs.Common.{◌≡◌, ◌≢◌, ℕ, ◌≤◌, Bool, true, not, ◌&&◌, eqb, Option, Some, None, cond, List, [], ◌∷◌, ◌++◌, map, filter}
use Rattle.std.proofs.Common.{length, refl, sym, ap, subst, ◌∙◌, arith}
use Rattle.std.proofs.lemmas.Bool.{cond_both}
use Rattle.std.proofs.lemmas.List.{length-append, length-map}
use Rattle.mq_topic.specs.declared.qos.Qos.{Qos}
use Rattle.mq_topic.specs.declared.qos.Qos.TheVariants.{Q0, Q1, Q2}
use Rattle.mq_packet.specs.declared.message.Message.{Message}
use Rattle.mq_packet.specs.declared.publish.Delivery.{Delivery}
use Rattle.mq_packet.specs.declared.connack.ConnAck.{ConnAck}
use Rattle.mq_packet.specs.declared.connack.ConnAck.TheVariants as connacks
use Rattle.mq_packet.specs.declared.connack.RefusalCode.TheVariants.{IdentifierRejected}
use Rattle.mq_packet.specs.declared.packet.Packet.{Packet}
use Rattle.mq_packet.specs.declared.packet.Packet.TheVariants as packets
use Rattle.mq_flow.specs.declared.entry.SenderEntry.{SenderEntry}
use Rattle.mq_flow.specs.declared.claim.Claimed.{Claimed}
use Rattle.mq_flow.specs.Sender.{SenderBook, held, uses, same_qos, release, awaits_suback, awaits_unsuback}
use Rattle.mq_flow.specs.Receiver.{ReceiverBook}
use Rattle.mq_flow.specs.Window.{Spans, fits_window}
use Rattle.mq_flow.specs.Laws.{IsSound}
use Rattle.mq_flow.proofs.Counting.{filter_le}
use Rattle.mq_end.specs.declared.state.State.{State}
use Rattle.mq_end.specs.declared.state.State.TheVariants.{Disconnected, Connecting, Connected}
use Rattle.mq_end.specs.declared.happening.Happening.TheVariants as happens
use Rattle.mq_end.specs.declared.reason.CloseReason.{CloseReason}
use Rattle.mq_end.specs.declared.reason.CloseReason.TheVariants as reasons
use Rattle.mq_end.specs.End.{End, Reply, reports_event, closes, becomes_connected, first_reason, one_by_one}
use Rattle.mq_end.specs.Both.{stores, publish_gets, flow_gets, publishes_at}
use Rattle.mq_end.specs.Client.{connack_gets, client_open_gets, client_up_gets}
use Rattle.mq_end.specs.Server.{refuses, server_open_gets, server_up_gets}
use Rattle.mq_end.proofs.Windows.{client_keeps, server_keeps}
use Rattle.mq_world.specs.declared.side.Side.{Side}
use Rattle.mq_world.specs.declared.side.Side.TheVariants.{Client, Server}
use Rattle.mq_world.specs.Half.{Half, Action, Publishes, Arrives, Drops, Leaves, Pings, kept, put, took, gets, arrival, moved}
use Rattle.mq_world.specs.Machine.{Machine, Move, By, Opens, Restarts, Run, after, blank_machine}
use Rattle.mq_world.specs.Carries.{Reached}
use Rattle.mq_world.proofs.Second.{spanned}
use Rattle.mq_world.proofs.Lists.{ids}
use Rattle.mq_world.proofs.Both.{Both}
use Rattle.mq_world.proofs.Steps.{moved_keeps}
use Rattle.mq_world.proofs.Together.{closed_silent}

-- ---- windows stay

published_window : (q : Qos) (i : ℕ) (m : Message) (e : End) → (publishes_at q i m e).end.window ≡ e.window
published_window Q0 i m e = refl
published_window Q1 i m e = refl
published_window Q2 i m e = refl

gets_window : (side : Side) (p : Packet) (e : End) → (gets side p e).end.window ≡ e.window
gets_window Client p e = (client_keeps p e).0
gets_window Server p e = (server_keeps p e).0

arrival_window : (q : List Packet) (side : Side) (h : Half) → (arrival q side h).half.end.window ≡ h.end.window
arrival_window [] side h = refl
arrival_window (p ∷ rest) side h = gets_window side p h.end

pub moved_window : (side : Side) (action : Action) (h : Half) → (moved side action h).half.end.window ≡ h.end.window
moved_window side (Publishes i m) h = published_window m.qos i m h.end
moved_window side Arrives h = arrival_window h.coming side h
moved_window side Drops h = refl
moved_window side Leaves h = refl
moved_window side Pings h = refl

-- each side of the second machine has the window that it has in the first
abbrev pub SameWindows : Machine → Machine → Type 0
SameWindows m n = (n.client.end.window ≡ m.client.end.window) × (n.server.end.window ≡ m.server.end.window)

pub windows_then : (m n v : Machine) → SameWindows m n → SameWindows n v → SameWindows m v
windows_then m n v a b = (b.0 ∙ a.0, b.1 ∙ a.1)

after_windows : (m : Machine) (move : Move) → SameWindows m (after m move)
after_windows m (By Client action) = (moved_window Client action m.client, refl)
after_windows m (By Server action) = (refl, moved_window Server action m.server)
after_windows m Opens = (refl, refl)
after_windows m Restarts = (refl, refl)

pub run_windows : (limit capacity : ℕ) (m : Machine) (moves : List Move) (v : Machine) → Run limit capacity m moves v → SameWindows m v
run_windows limit capacity m [] v run = (ap (λ (u : Machine). u.client.end.window) run, ap (λ (u : Machine). u.server.end.window) run)
run_windows limit capacity m (move ∷ moves) v run =
    windows_then m (after m move) v (after_windows m move) (run_windows limit capacity (after m move) moves v run.1)

pub reached_windows : (limit capacity : ℕ) (m : Machine) (r : Reached limit capacity m) → (m.client.end.window ≡ r.0) × (m.server.end.window ≡ r.0)
reached_windows limit capacity m r = run_windows limit capacity (blank_machine r.0) r.1 m r.2

-- ---- Packets fit

abbrev pub FitsAs : Qos → Option Delivery → Option ℕ → ReceiverBook → Type 0
FitsAs Q2 (Some d) window r = fits_window window d.id r ≡ true
FitsAs q d window r = Unit {0}

-- a packet is no PUBLISH that does not fit the window
abbrev pub FitsIn : Packet → Option ℕ → ReceiverBook → Type 0
FitsIn (packets.Publish p) window r = FitsAs p.message.qos p.delivery window r
FitsIn p window r = Unit {0}

-- A sender has at most `capacity` messages in flight.
few : (capacity : ℕ) (b : SenderBook) → IsSound capacity b → length (ids (held Q2 b.entries) ++ b.released) ≤ capacity
few capacity b s =
    let es : List SenderEntry = b.entries in
    let a = length-append (ids (held Q2 es)) b.released in
    let c = length-map (held Q2 es) (λ (p : ℕ × Message). p.0) in
    let d = length-map {B = ℕ × Message} (filter (λ (e : SenderEntry). same_qos Q2 e.message.qos) es) (λ (e : SenderEntry). (e.id, e.message)) in
    let f = filter_le (λ (e : SenderEntry). same_qos Q2 e.message.qos) es in
    let g = length-map es (λ (e : SenderEntry). e.id) in
    let h = length-append (map (λ (e : SenderEntry). e.id) es) (b.released ++ map (λ (c : Claimed). c.id) b.claimed) in
    let k = length-append b.released (map (λ (c : Claimed). c.id) b.claimed) in
    let w : length (uses b) ≤ capacity = s.within in
    omega arith

fits_publish : (capacity : ℕ) (h y : Half) (q : Qos) (d : Option Delivery) (m : Message) (rest : List Packet)
    → Both capacity (record h {
      end = record h.end { state = Connected };
      coming = packets.Publish (record
          { message = record m { qos = q }; delivery = d }) ∷ rest;
    }) y → Spans h.end.window capacity → FitsAs q d h.end.window h.end.received
fits_publish capacity h y Q2 (Some d) m rest b spans =
    spanned d.id (record m { qos = Q2 }) h.end.window capacity b.to_x.0 (few capacity y.end.book b.own_y.0) spans
fits_publish capacity h y q d m rest b spans = tt

pub fits_arriving : (capacity : ℕ) (h y : Half) (p : Packet) (rest : List Packet)
    → Both capacity (record h { end = record h.end { state = Connected }; coming = p ∷ rest }) y → Spans h.end.window capacity → FitsIn p h.end.window h.end.received
fits_arriving capacity h y (packets.Publish p) rest b spans = fits_publish capacity h y p.message.qos p.delivery p.message rest b spans
fits_arriving capacity h y p rest b spans = tt

-- ---- why an end closes

abbrev pub IsOther : Option CloseReason → Type 0
IsOther (Some reasons.Window) = ⊥
IsOther closed = Unit {0}

pub not_window : (closed : Option CloseReason) → IsOther closed → closed ≢ Some reasons.Window
not_window closed o e = subst IsOther e o

abbrev Other : Reply → Type 0
Other r = IsOther r.close

publish_other : (q : Qos) (d : Option Delivery) (m : Message) (e : End) → FitsAs q d e.window e.received → Other (publish_gets q d m e)
publish_other Q0 None m e f = tt
publish_other Q1 (Some d) m e f = tt
publish_other Q2 (Some d) m e f =
    let P : Bool → Type 0 = λ b. Other (cond b (stores d.id m e) (closes reasons.Window e)) in
    subst P (sym f) tt
publish_other q d m e f = tt

flow_other : (p : Packet) (e : End) → FitsIn p e.window e.received → Other (flow_gets p e)
flow_other (packets.Publish p) e f = publish_other p.message.qos p.delivery p.message e f
flow_other (packets.PubAck i) e f = tt
flow_other (packets.PubRec i) e f = tt
flow_other (packets.PubRel i) e f = tt
flow_other (packets.PubComp i) e f = tt
flow_other p e f = tt

connack_other : (a : ConnAck) (e : End) → Other (connack_gets a e)
connack_other (connacks.Refused code) e = tt
connack_other (connacks.Accepted present) e =
    cond_both (e.clean && present) (closes reasons.Unexpected e) _ Other (λ t. tt)
    (λ f. cond_both (not e.clean && (e.known && not present)) (closes reasons.SessionLost e) (becomes_connected [] present e) Other (λ t. tt) (λ f. tt))

client_open_other : (p : Packet) (e : End) → Other (client_open_gets p e)
client_open_other (packets.ConnAck a) e = connack_other a e
client_open_other p e = tt

client_up_other : (p : Packet) (e : End) → FitsIn p e.window e.received → Other (client_up_gets p e)
client_up_other (packets.SubAck i codes) e f =
    cond_both (awaits_suback i (length codes) e.book) (reports_event (happens.SubAck i codes) (record e { book = release i e.book }))
    (closes reasons.Unexpected e) Other (λ t. tt) (λ f. tt)
client_up_other (packets.UnsubAck i) e f =
    cond_both (awaits_unsuback i e.book) (reports_event (happens.UnsubAck i) (record e { book = release i e.book })) (closes reasons.Unexpected e) Other
    (λ t. tt) (λ f. tt)
client_up_other packets.PingResp e f = tt
client_up_other p e f = flow_other p e f

server_open_other : (p : Packet) (e : End) → Other (server_open_gets p e)
server_open_other (packets.Connect c) e =
    cond_both (not c.clean_session && eqb (length c.client_id) 0) (refuses IdentifierRejected e) _ Other (λ t. tt) (λ f. tt)
server_open_other p e = tt

server_up_other : (p : Packet) (e : End) → FitsIn p e.window e.received → Other (server_up_gets p e)
server_up_other (packets.Subscribe i requests) e f = tt
server_up_other (packets.Unsubscribe i filters) e f = tt
server_up_other packets.PingReq e f = tt
server_up_other packets.Disconnect e f = tt
server_up_other p e f = flow_other p e f

open_other : (side : Side) (p : Packet) (e : End) → Other (gets side p (record e { state = Connecting }))
open_other Client p e = client_open_other p (record e { state = Connecting })
open_other Server p e = server_open_other p (record e { state = Connecting })

up_other : (side : Side) (p : Packet) (e : End) → FitsIn p e.window e.received → Other (gets side p (record e { state = Connected }))
up_other Client p e f = client_up_other p (record e { state = Connected }) f
up_other Server p e f = server_up_other p (record e { state = Connected }) f

either_other : (a b : Option CloseReason) → IsOther a → IsOther b → IsOther (first_reason a b)
either_other None b x y = y
either_other (Some reason) b x y = x

-- ---- packets that come one after another

-- A property of each side at which the rest arrives.
abbrev Later : ℕ → Side → List Packet → List Packet → Type 0
Later capacity side ps rest =
    (x y : Half) → Both capacity x y → Spans x.end.window capacity → x.coming ≡ kept x.end.state (ps ++ rest) → Other (one_by_one (gets side) ps x.end)

first_other : (capacity : ℕ) (side : Side) (p : Packet) (ps rest : List Packet) (h y : Half) (st : State) → Later capacity side ps rest
    → Both capacity (record h { end = record h.end { state = st }; coming = kept st (p ∷ (ps ++ rest)) }) y → Spans h.end.window capacity
    → Other (one_by_one (gets side) (p ∷ ps) (record h.end { state = st }))
first_other capacity side p ps rest h y Disconnected later b spans =
    let x : Half = record h { end = record h.end { state = Disconnected }; coming = [] } in
    let P : Reply → Type 0 = λ r. IsOther (first_reason r.close (one_by_one (gets side) ps r.end).close) in
    subst P (sym (closed_silent side p h.end)) (later x y b spans refl)
first_other capacity side p ps rest h y Connecting later b spans =
    let x : Half = record h { end = record h.end { state = Connecting }; coming = p ∷ (ps ++ rest) } in
    let r : Reply = gets side p x.end in
    either_other r.close (one_by_one (gets side) ps r.end).close (open_other side p h.end)
    (later (took x (ps ++ rest) r).half (put r.out y) (moved_keeps 0 capacity side Arrives x y tt b)
    (subst (λ (o : Option ℕ). Spans o capacity) (sym (gets_window side p x.end)) spans) refl)
first_other capacity side p ps rest h y Connected later b spans =
    let x : Half = record h { end = record h.end { state = Connected }; coming = p ∷ (ps ++ rest) } in
    let r : Reply = gets side p x.end in
    either_other r.close (one_by_one (gets side) ps r.end).close (up_other side p h.end (fits_arriving capacity h y p (ps ++ rest) b spans))
    (later (took x (ps ++ rest) r).half (put r.out y) (moved_keeps 0 capacity side Arrives x y tt b)
    (subst (λ (o : Option ℕ). Spans o capacity) (sym (gets_window side p x.end)) spans) refl)

-- an end whose window is not less than the capacity closes at none of them because of it
pub all_other : (capacity : ℕ) (side : Side) (ps rest : List Packet) (x y : Half) → Both capacity x y → Spans x.end.window capacity
    → x.coming ≡ kept x.end.state (ps ++ rest) → Other (one_by_one (gets side) ps x.end)
all_other capacity side [] rest x y b spans h = tt
all_other capacity side (p ∷ ps) rest x y b spans h =
    let P : List Packet → Type 0 = λ q. Both capacity (record x { coming = q }) y → Other (one_by_one (gets side) (p ∷ ps) x.end) in
    subst P (sym h) (λ b. first_other capacity side p ps rest x y x.end.state (λ x y b s h. all_other capacity side ps rest x y b s h) b spans) b
