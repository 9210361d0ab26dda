-- Exchanges of a world over bytes are those of the machine, and so settling carries over.
use Rattle.std.proofs.Common.{◌≡◌, ℕ, zero, suc, ◌<◌, true, false, not, ◌&&◌, Option, Some, None, List, [], ◌∷◌, ◌++◌, length, replicate, refl, sym}
use Rattle.std.proofs.Common.{ap, subst, ◌∙◌, inl, inr}
use Rattle.std.proofs.lemmas.Bool.{cond_both}
use Rattle.std.proofs.lemmas.List.{append-nil}
use Rattle.mq_packet.specs.declared.packet.Packet.{Packet}
use Rattle.mq_decode.specs.Limits.{Bounds}
use Rattle.mq_decode.specs.Grammar.{Stream, Pending}
use Rattle.mq_decode.specs.Laws.{ReadsAgain}
use Rattle.mq_decode.specs.declared.fault.DecodeFault.{DecodeFault}
use Rattle.mq_flow.specs.Window.{Spans}
use Rattle.mq_end.specs.declared.state.State.{State}
use Rattle.mq_end.specs.declared.state.State.TheVariants.{Disconnected, Connecting, Connected}
use Rattle.mq_end.specs.declared.happening.Happening.{Happening}
use Rattle.mq_end.specs.declared.reason.CloseReason.{CloseReason}
use Rattle.mq_end.specs.declared.reason.CloseReason.TheVariants as reasons
use Rattle.mq_end.specs.End.{End, Reply, is_live, is_up, closes, one_by_one}
use Rattle.mq_end.specs.Server.{level_refused}
use Rattle.mq_end.specs.Laws.{ClosingLaws}
use Rattle.mq_end.specs.State.{EndState, is_level}
use Rattle.mq_end.specs.Receiving.{Ending, Waits, Closes, Breaks, Starves}
use Rattle.mq_world.specs.declared.side.Side.{Side}
use Rattle.mq_world.specs.declared.side.Side.TheVariants.{Client, Server}
use Rattle.mq_world.specs.Half.{Half, Accepted, HandedOn, Action, Publishes, Arrives, Drops, Leaves, Pings, kept, joined, put, arrival, moved, gets}
use Rattle.mq_world.specs.Machine.{Machine, Move, By, Opens, Restarts, Run, after, blank_machine}
use Rattle.mq_world.specs.Orders.{IsAt, messages}
use Rattle.mq_world.specs.Settling.{Idle, AllHanded, queue, arrivals, delivered, exchange, settled}
use Rattle.mq_world.specs.Identifiers.{half_of}
use Rattle.mq_world.specs.Carries.{WiredSide, Wired, CarriesSide, Reached, IsSpanned, seen}
use Rattle.mq_world.specs.OverBytes.{Stands, Delivers, near, far, facing, SameBounds, with_more, hearing, faulted, ReceivesAt}
use Rattle.mq_world.specs.SettlesOver.{SettledFrom, HoldsNothing, SettlesOver}
use Rattle.mq_world.proofs.Streams.{cut}
use Rattle.mq_world.proofs.Settle.{law as settling}
use Rattle.mq_world.proofs.Windows.{reached_windows}
use Rattle.mq_world.proofs.Moving.{same_state}
use Rattle.mq_world.proofs.Standing.{put_none, side_near, unheard}
use Rattle.mq_world.proofs.Delivering.{closes_all, deliver}

-- ---- nothing is in flight to a side without a connection

abbrev Quiet : Half → Type 0
Quiet h = h.end.state ≡ Disconnected → h.coming ≡ []

kept_quiet : (st : State) (q : List Packet) → st ≡ Disconnected → kept st q ≡ []
kept_quiet Disconnected q c = refl
kept_quiet Connecting q c = cc
kept_quiet Connected q c = cc

joined_quiet : (st : State) (q ps : List Packet) → (st ≡ Disconnected → q ≡ []) → st ≡ Disconnected → joined st q ps ≡ []
joined_quiet Disconnected q ps h c = h c
joined_quiet Connecting q ps h c = cc
joined_quiet Connected q ps h c = cc

arrival_quiet : (q : List Packet) (side : Side) (h : Half) → Quiet h → Quiet (arrival q side h).half
arrival_quiet [] side h k = k
arrival_quiet (p ∷ rest) side h k = λ c. kept_quiet (gets side p h.end).end.state rest c

moved_quiet : (side : Side) (action : Action) (h : Half) → Quiet h → Quiet (moved side action h).half
moved_quiet side (Publishes i m) h k = λ c. k (sym (same_state m.qos i m h.end) ∙ c)
moved_quiet side Arrives h k = arrival_quiet h.coming side h k
moved_quiet side Drops h k = λ c. refl
moved_quiet side Leaves h k = λ c. refl
moved_quiet side Pings h k = k

after_quiet : (m : Machine) (move : Move) → Quiet m.client → Quiet m.server → Quiet (after m move).client × Quiet (after m move).server
after_quiet m (By Client action) c s =
    (moved_quiet Client action m.client c, joined_quiet m.server.end.state m.server.coming (moved Client action m.client).out s)
after_quiet m (By Server action) c s =
    (joined_quiet m.client.end.state m.client.coming (moved Server action m.server).out c, moved_quiet Server action m.server s)
after_quiet m Opens c s = (λ e. refl, λ e. cc)
after_quiet m Restarts c s = (λ e. refl, joined_quiet m.server.end.state m.server.coming [] s)

run_quiet : (limit capacity : ℕ) (m : Machine) (moves : List Move) (v : Machine) → Run limit capacity m moves v → Quiet m.client → Quiet m.server
    → Quiet v.client × Quiet v.server
run_quiet limit capacity m [] v run c s = subst (λ (u : Machine). Quiet u.client × Quiet u.server) (sym run) (c, s)
run_quiet limit capacity m (move ∷ moves) v run c s = let k = after_quiet m move c s in run_quiet limit capacity (after m move) moves v run.1 k.0 k.1

reached_quiet : (limit capacity : ℕ) (side : Side) (m : Machine) → Reached limit capacity m → Quiet (half_of side m)
reached_quiet limit capacity Client m r = (run_quiet limit capacity (blank_machine r.0) r.1 m r.2 (λ c. refl) (λ c. refl)).0
reached_quiet limit capacity Server m r = (run_quiet limit capacity (blank_machine r.0) r.1 m r.2 (λ c. refl) (λ c. refl)).1

-- ---- arrivals

queue_is : (side : Side) (m : Machine) → queue side m ≡ (half_of side m).coming
queue_is Client m = refl
queue_is Server m = refl

arrives_none : (side : Side) (m : Machine) → (half_of side m).coming ≡ [] → after m (By side Arrives) ≡ m
arrives_none Client m e =
    let P : List Packet → Type 0 = λ q. record { client = (arrival q Client m.client).half; server = put (arrival q Client m.client).out m.server } ≡ m in
    subst P (sym e) (λ i. record { client = m.client; server = put_none m.server i })
arrives_none Server m e =
    let P : List Packet → Type 0 = λ q. record { client = put (arrival q Server m.server).out m.client; server = (arrival q Server m.server).half } ≡ m in
    subst P (sym e) (λ i. record { client = put_none m.client i; server = m.server })

arrivals_none : (n : ℕ) (side : Side) (m : Machine) → (half_of side m).coming ≡ [] → arrivals n side m ≡ m
arrivals_none zero side m e = refl
arrivals_none (suc n) side m e = ap (arrivals n side) (arrives_none side m e) ∙ arrivals_none n side m e

arrivals_both : (ps qs : List Packet) (side : Side) (m : Machine)
    → arrivals (length (ps ++ qs)) side m ≡ arrivals (length qs) side (arrivals (length ps) side m)
arrivals_both [] qs side m = refl
arrivals_both (p ∷ ps) qs side m = arrivals_both ps qs side (after m (By side Arrives))

run_arrives : (limit capacity : ℕ) (n : ℕ) (side : Side) (m v : Machine) → Run limit capacity m (replicate n (By side Arrives)) v → v ≡ arrivals n side m
run_arrives limit capacity zero side m v run = run
run_arrives limit capacity (suc n) side m v run = run_arrives limit capacity n side (after m (By side Arrives)) v run.1

-- ---- all the bytes

pub lose_all : (limit : Bounds) (capacity : ℕ) (side : Side) (w : Wired) (m : Machine) → Stands limit capacity w m
    → is_live (near side w).state.end.state ≡ false → Stands limit capacity (facing side (record (near side w) { wire = [] }) (far side w)) (delivered side m)
lose_all limit capacity side w m k off =
    let x = side_near limit capacity side w m k.carries in
    let closed : (half_of side m).end.state ≡ Disconnected = dead (half_of side m).end.state (ap (λ (e : End). is_live e.state) (sym x.end) ∙ off) in
    let none : delivered side m ≡ m =
    ap (λ (q : List Packet). arrivals (length q) side m) (queue_is side m ∙ reached_quiet limit.most capacity side m k.reached closed) in
    subst (λ (v : Machine). Stands limit capacity (facing side (record (near side w) { wire = [] }) (far side w)) v) (sym none)
    (unheard limit capacity side w m [] k off)
  where
    dead : (st : State) → is_live st ≡ false → st ≡ Disconnected
    dead Disconnected e = refl
    dead Connecting e = cc
    dead Connected e = cc

faulted_closed : (side : Side) (fault : DecodeFault) (e : End) → (faulted side fault e).end.state ≡ Disconnected
faulted_closed Client fault e = refl
faulted_closed Server fault e =
    cond_both (not (is_up e.state) && is_level fault.kind) (level_refused e) (closes (reasons.Fault fault) e) (λ r. r.end.state ≡ Disconnected) (λ t. refl)
    (λ f. refl)

-- an end that closes is closed
ending_closed : ClosingLaws → (limit : Bounds) (side : Side) (ps : List Packet) (e : End) (rest : List ℕ) (r : Reply) (held : List ℕ)
    (reason : CloseReason) → r.close ≡ Some reason → Ending limit (faulted side) (one_by_one (gets side) ps e) rest r held → r.end.state ≡ Disconnected
ending_closed laws limit side ps e rest r held reason some (Waits pending none same is_held) =
    absurd (none_some (sym none ∙ (ap (λ (r : Reply). r.close) (sym same) ∙ some)))
  where
    none_some : None ≡ Some reason → ⊥
    none_some e = cc
ending_closed laws limit side ps e rest r held reason some (Closes why closed same is_held) =
    ap (λ (r : Reply). r.end.state) same ∙ closes_all laws side ps e why closed
ending_closed laws limit side ps e rest r held reason some (Breaks fault bad none same is_held) =
    ap (λ (r : Reply). r.end.state) same ∙ faulted_closed side fault (one_by_one (gets side) ps e).end
ending_closed laws limit side ps e rest r held reason some (Starves more none same is_held) = ap (λ (r : Reply). r.end.state) same

-- Pending bytes have no packet in front.
none_pending : (limit : Bounds) (q : List Packet) (rest : List ℕ) → Stream limit q rest → Pending limit rest → q ≡ []
none_pending limit [] rest s p = refl
none_pending limit (x ∷ q) rest s p = absurd (p.not_whole x s.0 s.1 s.2 s.4)

module _ (reads : ReadsAgain) (laws : ClosingLaws) (limit : Bounds) (capacity : ℕ) (side : Side) (w : Wired) (m : Machine) (new : EndState)
    (happenings : List Happening) (acknowledged : List ℕ) where
  abbrev next : Option CloseReason → Wired
  next closed = facing side (hearing [] new happenings acknowledged closed (near side w)) (with_more new.output (far side w))

  -- If the end doesn't close, all packets of the queue arrived.
  all_came : Stands limit capacity w m → is_live (near side w).state.end.state ≡ true
      → (d : Delivers limit capacity side m ((near side w).state.held ++ (near side w).wire) None (next None))
      → delivered side m ≡ arrivals (length d.packets) side m
  all_came k live d =
      let x = side_near limit capacity side w m k.carries in
      let here : is_live (half_of side m).end.state ≡ true = ap (λ (e : End). is_live e.state) (sym x.end) ∙ live in
      let behind = cut reads limit (half_of side m).coming d.packets ((near side w).state.held ++ (near side w).wire) d.comes.front d.comes.rest
      (x.bytes here) d.comes.stream d.comes.parts in
      let none = none_pending limit behind.0 d.comes.rest behind.2 (d.comes.all refl) in
      ap (λ (q : List Packet). arrivals (length q) side m)
      (queue_is side m ∙ (behind.1 ∙ (ap (λ (q : List Packet). d.packets ++ q) none ∙ append-nil d.packets)))

  -- If it closes, no further packet arrives.
  no_more_came : (reason : CloseReason) → new.end.state ≡ Disconnected
      → (d : Delivers limit capacity side m ((near side w).state.held ++ (near side w).wire) (Some reason) (next (Some reason)))
      → d.follows.machine ≡ arrivals (length d.packets) side m → delivered side m ≡ d.follows.machine
  no_more_came reason closed d is =
      let v : Machine = d.follows.machine in
      let shut : (half_of side v).end.state ≡ Disconnected = ap (λ (e : End). e.state) (sym (near_end side d.follows.stands)) ∙ closed in
      let quiet : (half_of side v).coming ≡ [] = reached_quiet limit.most capacity side v d.follows.stands.reached shut in
      ap (λ (q : List Packet). arrivals (length q) side m) (queue_is side m ∙ d.first) ∙
      (arrivals_both d.packets d.later side m ∙ (ap (arrivals (length d.later) side) (sym is) ∙ arrivals_none (length d.later) side v quiet))
    where
      near_end : (side : Side) → Stands limit capacity
          (facing side (hearing [] new happenings acknowledged (Some reason) (near side w)) (with_more new.output (far side w))) d.follows.machine
          → new.end ≡ (half_of side d.follows.machine).end
      near_end Client k = k.carries.client.end
      near_end Server k = k.carries.server.end

  -- The machine made one arrival for each packet.
  made : (closed : Option CloseReason) → (closed ≡ Some reasons.Memory → ⊥)
      → (d : Delivers limit capacity side m ((near side w).state.held ++ (near side w).wire) closed (next closed))
      → d.follows.machine ≡ arrivals (length d.packets) side m
  made closed fed d =
      elim d.arrivals [
        | inl plain ↦
            run_arrives limit.most capacity (length d.packets) side m d.follows.machine
            (subst (λ (ms : List Move). Run limit.most capacity m ms d.follows.machine) plain d.follows.run)
        | inr starved ↦ absurd (fed starved.0)
      ]

  came_all : (closed : Option CloseReason) → ReceivesAt side (near side w).wire (near side w).state new happenings acknowledged closed
      → Stands limit capacity w m → is_live (near side w).state.end.state ≡ true → (closed ≡ Some reasons.Memory → ⊥)
      → Delivers limit capacity side m ((near side w).state.held ++ (near side w).wire) closed (next closed)
      → Stands limit capacity (next closed) (delivered side m)
  came_all None receives k live fed d =
      subst (λ (v : Machine). Stands limit capacity (next None) v) (made None fed d ∙ sym (all_came k live d)) d.follows.stands
  came_all (Some reason) receives k live fed d =
      let shows = receives.2 in
      let shut : new.end.state ≡ Disconnected =
      ap (λ (e : End). e.state) shows.after ∙
      ending_closed laws (near side w).state.limit side receives.1.packets (near side w).state.end receives.1.rest receives.0 new.held reason
      (sym shows.close) receives.1.ending in
      subst (λ (v : Machine). Stands limit capacity (next (Some reason)) v) (sym (no_more_came reason shut d (made (Some reason) fed d))) d.follows.stands

  deliver_all : (closed : Option CloseReason) → Stands limit capacity w m → is_live (near side w).state.end.state ≡ true
      → ReceivesAt side (near side w).wire (near side w).state new happenings acknowledged closed → SameBounds (near side w).state new
      → (closed ≡ Some reasons.Memory → ⊥) → Stands limit capacity (next closed) (delivered side m)
  deliver_all closed k live receives bounds fed =
      came_all closed receives k live fed
      (deliver reads laws limit capacity side w m (near side w).wire [] new happenings acknowledged closed k live
      (sym (append-nil (near side w).wire)) receives bounds)

-- ---- settling

-- the window of the ends is that with which the run began
spans_run : (limit : Bounds) (capacity : ℕ) (w : Wired) (m : Machine) → IsSpanned capacity w → (k : Stands limit capacity w m) → Spans k.reached.0 capacity
spans_run limit capacity w m spans k =
    subst (λ (o : Option ℕ). Spans o capacity) (ap (λ (e : End). e.window) k.carries.client.end ∙ (reached_windows limit.most capacity m k.reached).0) spans.0

idle_as : (x y : Half) → y.end ≡ x.end → Idle x → Idle y
idle_as x y e h = record { entries = ap (λ (e : End). e.book.entries) e ∙ h.entries; released = ap (λ (e : End). e.book.released) e ∙ h.released }

handed_as : (x y u v : Half) → u.accepted ≡ x.accepted → v.handed ≡ y.handed → AllHanded x y → AllHanded u v
handed_as x y u v a b h = record {
  exactly_once = ap (λ (h : HandedOn). h.exactly_once) b ∙ (h.exactly_once ∙ ap (λ (l : Accepted). l.exactly_once) (sym a));
  places = h.places;
  walk = h.walk;
  are = subst (λ (z : HandedOn × Accepted). IsAt z.0.at_least_once (messages z.1.at_least_once) h.places) (λ i. (sym b i, sym a i)) h.are;
  each = λ p below. h.each p (subst (λ (l : Accepted). p < length l.at_least_once) a below);
}

no_bytes_left : (limit : Bounds) (capacity : ℕ) (x : WiredSide) (h : Half) → CarriesSide limit capacity x h → h.end.state ≡ Connected → h.coming ≡ []
    → x.state.held ++ x.wire ≡ []
no_bytes_left limit capacity x h k up none = subst (λ (q : List Packet). Stream limit q (x.state.held ++ x.wire)) none (k.bytes (ap is_live up))

pub settles : (limit : Bounds) (capacity : ℕ) (w v : Wired) (m : Machine) → IsSpanned capacity w → Stands limit capacity w m
    → Stands limit capacity v (settled m) → SettledFrom w v
settles limit capacity w v m spans k s =
    let h = settling limit.most capacity k.reached.0 k.reached.1 m (spans_run limit capacity w m spans k) k.reached.2 in
    let c = s.carries.client in
    let d = s.carries.server in
    record {
      client_idle = idle_as (settled m).client (seen v).client c.end h.client_idle;
      server_idle = idle_as (settled m).server (seen v).server d.end h.server_idle;
      to_server = handed_as (settled m).client (settled m).server (seen v).client (seen v).server c.accepted d.handed h.to_server;
      to_client = handed_as (settled m).server (settled m).client (seen v).server (seen v).client d.accepted c.handed h.to_client;
      client_same = c.accepted ∙ (h.client_same ∙ sym k.carries.client.accepted);
      server_same = d.accepted ∙ (h.server_same ∙ sym k.carries.server.accepted);
      client_up = ap (λ (e : End). e.state) c.end ∙ h.client_up;
      server_up = ap (λ (e : End). e.state) d.end ∙ h.server_up;
      client_bytes = no_bytes_left limit capacity v.client (settled m).client c h.client_up h.client_queue;
      server_bytes = no_bytes_left limit capacity v.server (settled m).server d h.server_up h.server_queue;
    }

pub second : (limit : Bounds) (capacity : ℕ) (w v : Wired) (m : Machine) → IsSpanned capacity w → Stands limit capacity w m
    → Stands limit capacity v (exchange (exchange (after m Opens))) → HoldsNothing v
second limit capacity w v m spans k s =
    let h = settling limit.most capacity k.reached.0 k.reached.1 m (spans_run limit capacity w m spans k) k.reached.2 in
    record {
      client = ap (λ (e : End). e.book.entries) s.carries.client.end ∙ h.client_second;
      server = ap (λ (e : End). e.book.entries) s.carries.server.end ∙ h.server_second;
    }

pub law : ReadsAgain → ClosingLaws → SettlesOver
law reads laws = record {
  deliver_all = λ limit capacity side w m new happenings acknowledged closed. deliver_all reads laws limit capacity side w m new happenings acknowledged closed;
  lose_all = lose_all;
  settles = settles;
  second = second;
}
