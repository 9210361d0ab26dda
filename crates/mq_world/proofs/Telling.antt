-- The events of a world and their answers are a run of the machine, and its lists are those that
-- the answers report.
use Rattle.std.proofs.Common.{◌≡◌, ℕ, Bool, true, false, if◌then◌else◌, Option, Ok, Err, [], ◌∷◌, ◌++◌, ◌&&◌, refl, sym, ap, subst, ◌∙◌}
use Rattle.mq_topic.specs.declared.qos.Qos.{Qos}
use Rattle.mq_topic.specs.declared.qos.Qos.TheVariants.{Q0, Q1, Q2}
use Rattle.mq_packet.specs.declared.message.Message.{Message}
use Rattle.mq_decode.specs.Limits.{Bounds}
use Rattle.mq_end.specs.declared.progress.Progress.{Progress}
use Rattle.mq_end.specs.Both.{answered_identifier}
use Rattle.mq_end.specs.End.{is_live, is_up}
use Rattle.mq_end.specs.KeepAlive.{is_late, pings}
use Rattle.mq_end.specs.State.{EndState}
use Rattle.mq_world.specs.declared.side.Side.{Side}
use Rattle.mq_world.specs.declared.side.Side.TheVariants.{Client, Server}
use Rattle.mq_world.specs.declared.event.Event.{Event}
use Rattle.mq_world.specs.declared.event.Event.TheVariants as events
use Rattle.mq_world.specs.declared.answer.Answer.{Answer}
use Rattle.mq_world.specs.declared.answer.Answer.TheVariants as answers
use Rattle.mq_world.specs.declared.answer.DeliveredBytes.{DeliveredBytes}
use Rattle.mq_world.specs.declared.answer.Opening.{Opening}
use Rattle.mq_world.specs.Half.{Accepted, Publishes, Drops, Leaves, Pings, accepted_with, freed_with}
use Rattle.mq_world.specs.Machine.{Machine, Move, By, Opens, Restarts, Run, after}
use Rattle.mq_world.specs.Carries.{Wired, WiredSide}
use Rattle.mq_world.specs.OverBytes.{OverBytes, Stands, Follows, Alike, near, handed_with}
use Rattle.mq_world.specs.Time.{later, time_moves}
use Rattle.mq_world.specs.World.{IsAccepted, IsDelivered, IsOpened, Does}
use Rattle.mq_world.specs.EventByEvent.{Lists, Tells, EventByEvent, lists_of, identifier_in, with_progress, told_by_all}
use Rattle.mq_world.proofs.Chains.{joins}
use Rattle.mq_world.proofs.Standing.{alike_itself}
use Rattle.mq_world.proofs.Windows.{run_windows}
use Rattle.mq_world.proofs.Worlds.{StandsStill, live_or_not}

-- ---- lists

abbrev wired_lists : WiredSide → Lists
wired_lists x = record { accepted = x.accepted; handed = x.handed; freed = x.freed }

-- the lists of a machine are those of a world that carries it
carried_lists : (limit : Bounds) (capacity : ℕ) (w : Wired) (m : Machine) → Stands limit capacity w m
    → (lists_of m.client ≡ wired_lists w.client) × (lists_of m.server ≡ wired_lists w.server)
carried_lists limit capacity w m s = (
  λ i. record { accepted = sym s.carries.client.accepted i; handed = sym s.carries.client.handed i; freed = sym s.carries.client.freed i },
  λ i. record { accepted = sym s.carries.server.accepted i; handed = sym s.carries.server.handed i; freed = sym s.carries.server.freed i },
)

abbrev SameLists : Machine → Machine → Type 0
SameLists m n = (lists_of n.client ≡ lists_of m.client) × (lists_of n.server ≡ lists_of m.server)

same_machine : (m n : Machine) → n ≡ m → SameLists m n
same_machine m n e = (ap (λ (z : Machine). lists_of z.client) e, ap (λ (z : Machine). lists_of z.server) e)

-- a machine that makes no move
abbrev unmoved : (limit : Bounds) (capacity : ℕ) (v : Wired) (m : Machine) → Stands limit capacity v m → Follows limit capacity m [] v
unmoved limit capacity v m s = record { machine = m; run = refl; stands = s }

-- ---- The lists after an event

accepted_is : (qos : Qos) (i : ℕ) (message : Message) (id : Option ℕ) (before : Accepted) → id ≡ answered_identifier qos i
    → accepted_with qos i message before ≡ accepted_with qos (identifier_in id) message before
accepted_is Q0 i message id before e = refl
accepted_is Q1 i message id before e = ap (λ (o : Option ℕ). accepted_with Q1 (identifier_in o) message before) (sym e)
accepted_is Q2 i message id before e = refl

told_publish : (limit : Bounds) (capacity : ℕ) (side from : Side) (w v : Wired) (m : Machine) (message : Message) (id : Option ℕ) → Stands limit capacity w m
    → IsAccepted limit capacity side message id w v → Tells limit capacity m (events.Publish side message ∷ []) (answers.Published from (Ok id) ∷ []) v
told_publish limit capacity Client from w v m message id s h =
    let f = h.moves m s in
    let same = same_machine (after m (By Client (Publishes h.id message))) f.machine f.run.1 in
    record {
      moves = By Client (Publishes h.id message) ∷ [];
      follows = f;
      client = same.0 ∙ ap (λ (a : Accepted). let l : Lists = record (lists_of m.client) { accepted = a } in l)
          (accepted_is message.qos h.id message id m.client.accepted h.answered);
      server = same.1;
    }
told_publish limit capacity Server from w v m message id s h =
    let f = h.moves m s in
    let same = same_machine (after m (By Server (Publishes h.id message))) f.machine f.run.1 in
    record {
      moves = By Server (Publishes h.id message) ∷ [];
      follows = f;
      client = same.0;
      server = same.1 ∙ ap (λ (a : Accepted). let l : Lists = record (lists_of m.server) { accepted = a } in l)
          (accepted_is message.qos h.id message id m.server.accepted h.answered);
    }

nothing_told : (p : Progress) (l : Lists) → p.happenings ≡ [] → p.acknowledged ≡ [] → l ≡ with_progress p l
nothing_told p l none free = λ i. record {
  accepted = l.accepted;
  handed = handed_with (sym none i) l.handed;
  freed = freed_with l.accepted.at_least_once (sym free i) l.freed;
}

-- bytes that came to a side with a connection, and to one without
told_heard : (limit : Bounds) (capacity : ℕ) (side : Side) (w v : Wired) (m : Machine) (count : ℕ) (d : DeliveredBytes) → Stands limit capacity w m
    → IsDelivered limit capacity side count d w v → is_live (near side w).state.end.state ≡ true
    → Tells limit capacity m (events.Deliver side count ∷ []) (answers.Delivered d ∷ []) v
told_heard limit capacity Client w v m count d s h on =
    let a = h.arrive on m s in
    let world = (h.hears on).world in
    let before = carried_lists limit capacity w m s in
    let now = carried_lists limit capacity v a.follows.machine a.follows.stands in
    record {
      moves = a.moves;
      follows = a.follows;
      client = now.0 ∙ (ap (λ (u : Wired). wired_lists u.client) world ∙ ap (with_progress d.progress) (sym before.0));
      server = now.1 ∙ (ap (λ (u : Wired). wired_lists u.server) world ∙ sym before.1);
    }
told_heard limit capacity Server w v m count d s h on =
    let a = h.arrive on m s in
    let world = (h.hears on).world in
    let before = carried_lists limit capacity w m s in
    let now = carried_lists limit capacity v a.follows.machine a.follows.stands in
    record {
      moves = a.moves;
      follows = a.follows;
      client = now.0 ∙ (ap (λ (u : Wired). wired_lists u.client) world ∙ sym before.0);
      server = now.1 ∙ (ap (λ (u : Wired). wired_lists u.server) world ∙ ap (with_progress d.progress) (sym before.1));
    }

told_ignored : (limit : Bounds) (capacity : ℕ) (side : Side) (v : Wired) (m : Machine) (count : ℕ) (d : DeliveredBytes) → Stands limit capacity v m
    → d.progress.happenings ≡ [] → d.progress.acknowledged ≡ [] → Tells limit capacity m (events.Deliver side count ∷ []) (answers.Delivered d ∷ []) v
told_ignored limit capacity Client v m count d s none free =
    record { moves = []; follows = unmoved limit capacity v m s; client = nothing_told d.progress (lists_of m.client) none free; server = refl }
told_ignored limit capacity Server v m count d s none free =
    record { moves = []; follows = unmoved limit capacity v m s; client = refl; server = nothing_told d.progress (lists_of m.server) none free }

told_delivery : OverBytes → (limit : Bounds) (capacity : ℕ) (side : Side) (w v : Wired) (m : Machine) (count : ℕ) (d : DeliveredBytes) → Stands limit capacity w m
    → IsDelivered limit capacity side count d w v → Tells limit capacity m (events.Deliver side count ∷ []) (answers.Delivered d ∷ []) v
told_delivery law limit capacity side w v m count d s h =
    live_or_not (is_live (near side w).state.end.state) (Tells limit capacity m (events.Deliver side count ∷ []) (answers.Delivered d ∷ []) v)
    (told_heard limit capacity side w v m count d s h)
    (λ off.
    let lost = h.ignores off in
    let stands = subst (λ (u : Wired). Stands limit capacity u m) (sym lost.world) (law.unheard limit capacity side w m _ s off) in
    told_ignored limit capacity side v m count d stands lost.happenings lost.acknowledged)

dropped_lists : (side : Side) (m : Machine) → SameLists m (after m (By side Drops))
dropped_lists Client m = (refl, refl)
dropped_lists Server m = (refl, refl)

told_loss : (limit : Bounds) (capacity : ℕ) (side from : Side) (was_open : Bool) (v : Wired) (m : Machine) → Follows limit capacity m (By side Drops ∷ []) v
    → Tells limit capacity m (events.Drop side ∷ []) (answers.Dropped from was_open ∷ []) v
told_loss limit capacity side from was_open v m f =
    let same = same_machine (after m (By side Drops)) f.machine f.run.1 in
    let dropped = dropped_lists side m in
    record { moves = By side Drops ∷ []; follows = f; client = same.0 ∙ dropped.0; server = same.1 ∙ dropped.1 }

told_opening : (limit : Bounds) (capacity : ℕ) (w v : Wired) (m : Machine) (o : Opening) → Stands limit capacity w m → IsOpened limit capacity o w v
    → Tells limit capacity m (events.Open ∷ []) (answers.Opened o ∷ []) v
told_opening limit capacity w v m o s h = live_or_not o.refused (Tells limit capacity m (events.Open ∷ []) (answers.Opened o ∷ []) v)
    (λ refused.
    let f = (h.refused refused).2 m s in
    let same = same_machine (after (after m (By Client Drops)) (By Server Drops)) f.machine f.run.1.1 in
    record { moves = By Client Drops ∷ By Server Drops ∷ []; follows = f; client = same.0; server = same.1 })
    (λ opened.
    let f = h.opens opened m s in
    let same = same_machine (after m Opens) f.machine f.run.1 in
    record { moves = Opens ∷ []; follows = f; client = same.0; server = same.1 })

-- Time passes: the client sends PINGREQ, the server drops the connection, or nothing happens.
one_or_none : (limit capacity : ℕ) (m n : Machine) (made : Bool) (move : Move) → SameLists m (after m move)
    → Run limit capacity m (if made then move ∷ [] else []) n → SameLists m n
one_or_none limit capacity m n true move kept run =
    let same = same_machine (after m move) n run.1 in
    (same.0 ∙ kept.0, same.1 ∙ kept.1)
one_or_none limit capacity m n false move kept run = same_machine m n run

told_time : (limit capacity : ℕ) (side : Side) (now : ℕ) (state : EndState) (m n : Machine) → Run limit capacity m (time_moves side now state) n → SameLists m n
told_time limit capacity Client now state m n run =
    one_or_none limit capacity m n (pings state.last_activity now state.end) (By Client Pings) (refl, refl) run
told_time limit capacity Server now state m n run =
    one_or_none limit capacity m n (is_up state.end.state && is_late state.last_activity state.end.keep_alive now) (By Server Drops) (refl, refl) run

told_event : OverBytes → (limit : Bounds) (capacity : ℕ) (event : Event) (answer : Answer) (w v : Wired) (m : Machine) → Stands limit capacity w m
    → Does limit capacity event answer w v → Tells limit capacity m (event ∷ []) (answer ∷ []) v
told_event law limit capacity (events.Publish side message) (answers.Published from (Ok id)) w v m s h =
    told_publish limit capacity side from w v m message id s h.1
told_event law limit capacity (events.Publish side message) (answers.Published from (Err why)) w v m s h =
    record {
      moves = [];
      follows = unmoved limit capacity v m (subst (λ (u : Wired). Stands limit capacity u m) (sym h.1.same) s);
      client = refl;
      server = refl;
    }
told_event law limit capacity (events.Deliver side count) (answers.Delivered d) w v m s h = told_delivery law limit capacity side w v m count d s h
told_event law limit capacity (events.Drop side) (answers.Dropped from was_open) w v m s h = told_loss limit capacity side from was_open v m (h.1.moves m s)
told_event law limit capacity events.Restart (answers.Restarted was_open (Ok done)) w v m s h =
    let f = h.moves m s in
    let same = same_machine (after m Restarts) f.machine f.run.1 in
    record { moves = Restarts ∷ []; follows = f; client = same.0; server = same.1 }
told_event law limit capacity events.Restart (answers.Restarted was_open (Err why)) w v m s h =
    let f = h.lost.moves m s in
    let same = same_machine (after m (By Client Drops)) f.machine f.run.1 in
    record { moves = By Client Drops ∷ []; follows = f; client = same.0; server = same.1 }
told_event law limit capacity events.Leave (answers.Left (Ok done)) w v m s h =
    let f = h.moves m s in
    let same = same_machine (after m (By Client Leaves)) f.machine f.run.1 in
    record { moves = By Client Leaves ∷ []; follows = f; client = same.0; server = same.1 }
told_event law limit capacity events.Leave (answers.Left (Err why)) w v m s h =
    record { moves = []; follows = unmoved limit capacity v m (subst (λ (u : Wired). Stands limit capacity u m) (sym h.same) s); client = refl; server = refl }
told_event law limit capacity events.Open (answers.Opened o) w v m s h = told_opening limit capacity w v m o s h
told_event law limit capacity (events.Tick side more) (answers.Ticked from (Ok closed)) w v m s h =
    let now = later (near side w).clock more in
    let f = h.1.moves m s in
    let same = told_time limit.most capacity side now (near side w).state m f.machine f.run in
    record { moves = time_moves side now (near side w).state; follows = f; client = same.0; server = same.1 }
told_event law limit capacity (events.Tick side more) (answers.Ticked from (Err why)) w v m s h =
    let u : Wired = record w { client = record w.client { clock = later w.client.clock more } } in
    let a : Alike w.client u.client =
    record { end = refl; bytes = λ live. refl; output = refl; reserved = refl; bounds = (refl, refl); accepted = refl; handed = refl; freed = refl } in
    let stands = subst (λ (z : Wired). Stands limit capacity z m) (sym h.1.world) (law.alike limit capacity w u m s a (alike_itself w.server)) in
    record { moves = []; follows = unmoved limit capacity v m stands; client = refl; server = refl }
told_event law limit capacity event answer w v m s h = absurd h

pub stands_done : OverBytes → (limit : Bounds) (capacity : ℕ) (event : Event) (answer : Answer) (w v : Wired) (m : Machine) → Stands limit capacity w m
    → Does limit capacity event answer w v → StandsStill limit capacity v m
stands_done law limit capacity event answer w v m s h =
    let t = told_event law limit capacity event answer w v m s h in
    (t.follows.machine, t.follows.stands, run_windows limit.most capacity m t.moves t.follows.machine t.follows.run)

-- ---- events, one after another

pub law : OverBytes → EventByEvent
law bytes limit capacity [] [] w v m s h =
    record { moves = []; follows = unmoved limit capacity v m (subst (λ (u : Wired). Stands limit capacity u m) (sym h) s); client = refl; server = refl }
law bytes limit capacity (event ∷ events) (answer ∷ answers) w v m s h =
    let one = told_event bytes limit capacity event answer w h.0 m s h.1 in
    let others = law bytes limit capacity events answers h.0 v one.follows.machine one.follows.stands h.2 in
    record {
      moves = one.moves ++ others.moves;
      follows = record {
        machine = others.follows.machine;
        run = joins limit.most capacity m one.follows.machine others.follows.machine one.moves others.moves one.follows.run others.follows.run;
        stands = others.follows.stands;
      };
      client = others.client ∙ ap (told_by_all Client events answers) one.client;
      server = others.server ∙ ap (told_by_all Server events answers) one.server;
    }
law bytes limit capacity [] (answer ∷ answers) w v m s h = absurd h
law bytes limit capacity (event ∷ events) [] w v m s h = absurd h
