-- The effect of each event of a world over bytes, derived from its ends.
use Rattle.std.proofs.Common.{◌≡◌, ℕ, ◌<◌, ◌≤◌, Bool, true, false, not, ◌&&◌, Option, None, Some, Result, Ok, Err, List, [], ◌∷◌, ◌++◌, length, take}
use Rattle.std.proofs.Common.{drop, get_or, ◌+◌, add-one, refl, sym, ap, subst, ◌∙◌, nat_lt, IfSome, IfNone, IfErr, OnOk, OnErr}
use Rattle.std.specs.Result.{is_err}
use Rattle.std.proofs.Math.Seq.{take-suc}
use Rattle.std.proofs.lemmas.List.{take-append-drop}
use Rattle.mq_packet.specs.declared.message.Message.{Message}
use Rattle.mq_decode.specs.Limits.{Bounds}
use Rattle.mq_end.specs.declared.reason.CloseReason.{CloseReason}
use Rattle.mq_end.specs.declared.refusal.PublishRefusal.{PublishRefusal}
use Rattle.mq_end.specs.declared.refusal.PublishRefusal.TheVariants as refusals
use Rattle.mq_packet.specs.declared.packet.Packet.TheVariants as packets
use Rattle.mq_end.specs.End.{End, is_live, over, blank_end}
use Rattle.mq_end.specs.Client.{connects}
use Rattle.mq_end.specs.Server.{opens}
use Rattle.mq_packet.specs.declared.packet.Packet.{Packet}
use Rattle.mq_end.specs.Both.{has_identifier, answered_identifier, publishes}
use Rattle.mq_end.specs.Laws.{MayHave}
use Rattle.mq_end.specs.State.{EndState, PutsOut}
use Rattle.mq_end.specs.Publishing.{Accepts}
use Rattle.mq_end.specs.Receiving.{HearsAt}
use Rattle.mq_flow.specs.Sender.{IsFirstFree}
use Rattle.mq_world.specs.declared.side.Side.{Side}
use Rattle.mq_world.specs.declared.side.Side.TheVariants.{Client, Server}
use Rattle.mq_world.specs.declared.event.Event.{Event}
use Rattle.mq_world.specs.declared.answer.Answer.{Answer}
use Rattle.mq_world.specs.declared.answer.DeliveredBytes.{DeliveredBytes}
use Rattle.mq_world.specs.declared.answer.Opening.{Opening}
use Rattle.mq_world.specs.declared.answer.Settling.{Settling}
use Rattle.mq_world.specs.Half.{Publishes, Drops, refusal, freed_with, accepted_with}
use Rattle.mq_world.specs.Machine.{Machine, Move, By, Opens, first_packet, blank_machine}
use Rattle.mq_world.specs.Carries.{WiredSide, Wired}
use Rattle.mq_world.specs.OverBytes.{OverBytes, Stands, Follows, Delivers, ReceivesAt, SameBounds, near, far, facing, written, with_more, accepting}
use Rattle.mq_world.specs.OverBytes.{hearing, handed_with, left_on, cut_off, blank_side}
use Rattle.mq_world.specs.World.{Moves, IsAccepted, IsRefused, reason_or_memory, Ignores, IsDelivered, IsLost, IsOpened, IsSettled, Does, Leads}
use Rattle.mq_world.specs.World.{InTurn, exchanges}
use Rattle.mq_world.specs.Time.{SameTime, SameTimes, HearsIn, BeginsNow}
use Rattle.mq_world.proofs.Windows.{SameWindows, run_windows, windows_then}
use Rattle.mq_world.proofs.Standing.{side_near, no_more_bytes}

-- ---- sides

near_facing : (side : Side) (x y : WiredSide) → near side (facing side x y) ≡ x
near_facing Client x y = refl
near_facing Server x y = refl

far_facing : (side : Side) (x y : WiredSide) → far side (facing side x y) ≡ y
far_facing Client x y = refl
far_facing Server x y = refl

-- a side is made of its parts
pub same_side : (x y : WiredSide) → x.state ≡ y.state → x.clock ≡ y.clock → x.wire ≡ y.wire → x.accepted ≡ y.accepted → x.handed ≡ y.handed
    → x.freed ≡ y.freed → x ≡ y
same_side x y a t b c d e = λ i. record { state = a i; clock = t i; wire = b i; accepted = c i; handed = d i; freed = e i }

pub same_wired : (v w : Wired) → v.client ≡ w.client → v.server ≡ w.server → v ≡ w
same_wired v w a b = λ i. record { client = a i; server = b i }

-- an end whose output is empty, and that has no room for more, is one whose output is on the wire
pub written_same : (s : EndState) → s.output ≡ [] → s.room.bytes ≡ 0 → written s ≡ s
written_same s e z = λ i. record s { output = sym e i; room = record s.room { bytes = sym z i } }

-- ---- time

-- No time passes for a side toward which bytes are sent.
no_time : (x : WiredSide) → SameTime x x
no_time x = record { clock = refl; last_activity = refl }

same_times : (side : Side) (w : Wired) (x y : WiredSide) → SameTime (near side w) x → SameTime (far side w) y → SameTimes w (facing side x y)
same_times Client w x y a b = record { client = a; server = b }
same_times Server w x y a b = record { client = b; server = a }

-- The server's own time of last activity.
pub heard_written : (now : ℕ) (b : List ℕ) (closed : Option CloseReason) (old new : EndState) → HearsAt now b closed old new
    → HearsAt now b closed old (written new)
heard_written now b closed old new h = record { waits = h.waits; closes = h.closes; hears = h.hears }

-- ---- publishing

-- The output of an end is appended to the wire, if none was pending.
pub on_wire : (ps : List Packet) (old new wire : List ℕ) → old ≡ [] → PutsOut ps old new → PutsOut ps wire (wire ++ new)
on_wire ps old new wire quiet (b, encoded, e) = (b, encoded, ap (λ (z : List ℕ). wire ++ z) (e ∙ ap (λ (z : List ℕ). z ++ b) quiet))

may_have : (b : Bool) (e : End) (i : ℕ) → (b ≡ true → IsFirstFree e.last e.book i) → MayHave b e i
may_have true e i h = (h refl).free
may_have false e i h = tt

pub accepted_at : OverBytes → (limit : Bounds) (capacity : ℕ) (side : Side) (w v : Wired) (m : Machine) (message : Message) (answer : Option ℕ)
    (new : EndState) → Stands limit capacity w m
    → refusal side (near side w).state.limit.most (near side w).state.capacity message (near side w).state.end ≡ None
    → Accepts answer message (near side w).state new
    → ((i : ℕ) → answer ≡ answered_identifier message.qos i → v ≡ facing side (accepting i message new (near side w)) (with_more new.output (far side w)))
    → IsAccepted limit capacity side message answer w v
accepted_at law limit capacity side w v m message answer new s free a e =
    let x = (side_near limit capacity side w m s.carries) in
    let bounded : refusal side limit.most capacity message (near side w).state.end ≡ None =
    subst (λ (n : Bounds). refusal side n.most capacity message (near side w).state.end ≡ None) x.limits
    (subst (λ (n : ℕ). refusal side (near side w).state.limit.most n message (near side w).state.end ≡ None) x.room free) in
    record {
      id = a.id;
      answered = a.answered;
      first = a.first;
      wire = ap (λ (u : Wired). (near side u).wire) (e a.id a.answered) ∙
          ap (λ (z : WiredSide). z.wire) (near_facing side (accepting a.id message new (near side w)) (with_more new.output (far side w)));
      out = subst (λ (u : Wired). PutsOut (publishes a.id message (near side w).state.end).out (far side w).wire (far side u).wire) (sym (e a.id a.answered))
          (subst (λ (z : WiredSide). PutsOut (publishes a.id message (near side w).state.end).out (far side w).wire z.wire)
          (sym (far_facing side (accepting a.id message new (near side w)) (with_more new.output (far side w))))
          (on_wire (publishes a.id message (near side w).state.end).out (near side w).state.output new.output (far side w).wire x.output a.out));
      times = subst (λ (u : Wired). SameTimes w u) (sym (e a.id a.answered))
          (same_times side w (accepting a.id message new (near side w)) (with_more new.output (far side w))
          (record { clock = refl; last_activity = ap (λ (z : EndState). z.last_activity) a.state }) (record { clock = refl; last_activity = refl }));
      moves = λ n t. subst (λ (u : Wired). Follows limit capacity n (By side (Publishes a.id message) ∷ []) u) (sym (e a.id a.answered))
          (law.publish limit capacity side w n a.id message new t bounded (may_have (has_identifier message.qos) (near side w).state.end a.id a.first)
          (ap (λ (z : EndState). z.end) a.state) a.out (ap (λ (z : EndState). z.held) a.state)
          (ap (λ (z : EndState). z.limit) a.state, ap (λ (z : EndState). z.capacity) a.state));
    }

pub reason_is : {A : Type 0} (o : Option PublishRefusal) (why : PublishRefusal) (result : Result A PublishRefusal) → result ≡ Err why
    → IfSome o (λ y. result ≡ Err y) → IfNone o (IfErr result (λ y. y ≡ refusals.Memory)) → why ≡ reason_or_memory o
reason_is {A} None why result e a b = memory result e b
  where
    memory : (r : Result A PublishRefusal) → r ≡ Err why → IfErr r (λ y. y ≡ refusals.Memory) → why ≡ refusals.Memory
    memory (Ok x) e b = cc
    memory (Err y) e b = cc
reason_is (Some y) why result e a b = cc

pub refused_at : (limit : Bounds) (capacity : ℕ) (side : Side) (w v : Wired) (m : Machine) (message : Message) (why : PublishRefusal)
    (result : Result (Option ℕ) PublishRefusal) → Stands limit capacity w m → result ≡ Err why
    → IfSome (refusal side (near side w).state.limit.most (near side w).state.capacity message (near side w).state.end) (λ y. result ≡ Err y)
    → IfNone (refusal side (near side w).state.limit.most (near side w).state.capacity message (near side w).state.end)
    (IfErr result (λ y. y ≡ refusals.Memory))
    → v ≡ w → IsRefused limit capacity side message why w v
refused_at limit capacity side w v m message why result s e a b same =
    let x = (side_near limit capacity side w m s.carries) in
    let own = reason_is (refusal side (near side w).state.limit.most (near side w).state.capacity message (near side w).state.end) why result e a b in
    record {
      reason = own ∙ ap (λ (n : Bounds). reason_or_memory (refusal side n.most (near side w).state.capacity message (near side w).state.end)) x.limits
          ∙ ap (λ (n : ℕ). reason_or_memory (refusal side limit.most n message (near side w).state.end)) x.room;
      same = same;
    }

split : (side : Side) (v : Wired) → v ≡ facing side (near side v) (far side v)
split Client v = refl
split Server v = refl

pub no_reason : {A : Type 0} (o : Option PublishRefusal) (answer : A) (result : Result A PublishRefusal) → result ≡ Ok answer
    → IfSome o (λ y. result ≡ Err y) → o ≡ None
no_reason None answer result e h = refl
no_reason (Some y) answer result e h = let f : Ok answer ≡ Err y = sym e ∙ h in cc

-- A message is accepted; the end and the lists get clones of it.
pub published_at : OverBytes → (limit : Bounds) (capacity : ℕ) (side : Side) (w v : Wired) (m : Machine) (message copy twin : Message)
    (answer : Option ℕ) (new : EndState) (out : List ℕ) → Stands limit capacity w m
    → copy ≡ message → twin ≡ message
    → IfSome (refusal side (near side w).state.limit.most (near side w).state.capacity copy (near side w).state.end)
    (λ y. let r : Result (Option ℕ) PublishRefusal = Ok answer in r ≡ Err y)
    → Accepts answer copy (near side w).state new
    → (near side v).state ≡ written new → (near side v).clock ≡ (near side w).clock → (near side v).wire ≡ (near side w).wire
    → ((i : ℕ) → answer ≡ answered_identifier twin.qos i → (near side v).accepted ≡ accepted_with twin.qos i twin (near side w).accepted)
    → (near side v).handed ≡ (near side w).handed → (near side v).freed ≡ (near side w).freed
    → out ≡ new.output → (far side v).wire ≡ (far side w).wire ++ out → far side v ≡ record (far side w) { wire = (far side v).wire }
    → IsAccepted limit capacity side message answer w v
published_at law limit capacity side w v m message copy twin answer new out s one two free accepts state clock wire accepted handed freed is more rest =
    let own = (near side w).state in
    let none = no_reason (refusal side own.limit.most own.capacity copy own.end) answer (Ok answer) refl free in
    let none_ = subst (λ (z : Message). refusal side own.limit.most own.capacity z own.end ≡ None) one none in
    let accepts_ = subst (λ (z : Message). Accepts answer z own new) one accepts in
    let accepted_ =
    subst (λ (z : Message). (i : ℕ) → answer ≡ answered_identifier z.qos i
    → (near side v).accepted ≡ accepted_with z.qos i z (near side w).accepted) two accepted in
    let other : far side v ≡ with_more new.output (far side w) =
    rest ∙ ap (λ (b : List ℕ). record (far side w) { wire = b }) (more ∙ ap (λ (b : List ℕ). (far side w).wire ++ b) is) in
    accepted_at law limit capacity side w v m message answer new s none_ accepts_
    (λ i e. split side v ∙ (λ j. facing side
    (same_side (near side v) (accepting i message new (near side w)) state clock wire (accepted_ i e) handed freed j) (other j)))

-- ---- bytes that come

ignored : (limit : Bounds) (capacity : ℕ) (side : Side) (w v : Wired) (m : Machine) (left : List ℕ) (d : DeliveredBytes) (new : EndState) → Stands limit capacity w m
    → new ≡ (near side w).state → (d.progress.happenings ≡ []) × (d.progress.acknowledged ≡ []) × (d.progress.closed ≡ None)
    → v ≡ facing side (hearing left new d.progress.happenings d.progress.acknowledged d.progress.closed (near side w)) (with_more new.output (far side w))
    → Ignores side left d w v
ignored limit capacity side w v m left d new s same none e =
    let x = side_near limit capacity side w m s.carries in
    let quiet : new.output ≡ [] = ap (λ (z : EndState). z.output) same ∙ x.output in
    let none_kept : new.room.bytes ≡ 0 = ap (λ (z : EndState). z.room.bytes) same ∙ x.reserved in
    let one : hearing left new d.progress.happenings d.progress.acknowledged d.progress.closed (near side w) ≡ record (near side w) { wire = left } =
    (λ i. record {
      state = (written_same new quiet none_kept ∙ same) i;
      clock = (near side w).clock;
      wire = left_on (none.2 i) left;
      accepted = (near side w).accepted;
      handed = handed_with (none.0 i) (near side w).handed;
      freed = freed_with (near side w).accepted.at_least_once (none.1 i) (near side w).freed;
    }) in
    let two : with_more new.output (far side w) ≡ far side w = ap (λ (b : List ℕ). with_more b (far side w)) quiet ∙ no_more_bytes (far side w) in
    record { happenings = none.0; acknowledged = none.1; closed = none.2; world = e ∙ (λ i. facing side (one i) (two i)) }

pub delivered_at : OverBytes → (limit : Bounds) (capacity : ℕ) (side : Side) (w v : Wired) (m : Machine) (count : ℕ) (d : DeliveredBytes) (new : EndState)
    → Stands limit capacity w m
    → d.side ≡ side → d.bytes ≡ take count (near side w).wire
    → d.lost ≡ (not (is_live (near side w).state.end.state) && nat_lt 0 (length d.bytes))
    → (is_live (near side w).state.end.state ≡ true
    → ReceivesAt side d.bytes (near side w).state new d.progress.happenings d.progress.acknowledged d.progress.closed)
    → (is_live (near side w).state.end.state ≡ false → new ≡ (near side w).state)
    → (is_live (near side w).state.end.state ≡ false → (d.progress.happenings ≡ []) × (d.progress.acknowledged ≡ []) × (d.progress.closed ≡ None))
    → (is_live (near side w).state.end.state ≡ true → HearsIn side ((near side w).state.held ++ d.bytes) d.progress.closed (near side w)
    (hearing (drop count (near side w).wire) new d.progress.happenings d.progress.acknowledged d.progress.closed (near side w)))
    → SameBounds (near side w).state new
    → v ≡ facing side (hearing (drop count (near side w).wire) new d.progress.happenings d.progress.acknowledged d.progress.closed (near side w))
    (with_more new.output (far side w))
    → IsDelivered limit capacity side count d w v
delivered_at law limit capacity side w v m count d new s to bytes lost live dead none heard bounds e =
    let left = drop count (near side w).wire in
    let x = hearing left new d.progress.happenings d.progress.acknowledged d.progress.closed (near side w) in
    let at : near side v ≡ x = ap (near side) e ∙ near_facing side x (with_more new.output (far side w)) in
    let parts : (near side w).wire ≡ d.bytes ++ left = sym (take-append-drop count (near side w).wire) ∙ ap (λ (b : List ℕ). b ++ left) (sym bytes) in
    record {
      to = to;
      bytes = bytes;
      left = ap (λ (z : WiredSide). z.wire) at;
      handed = ap (λ (z : WiredSide). z.handed) at;
      freed = ap (λ (z : WiredSide). z.freed) at;
      lost = lost;
      arrive = λ on n t. subst (λ (u : Wired). Delivers limit capacity side n ((near side w).state.held ++ d.bytes) d.progress.closed u) (sym e)
          (law.deliver limit capacity side w n d.bytes left new d.progress.happenings d.progress.acknowledged d.progress.closed t on parts (live on) bounds);
      hears = λ on. record {
        state = new;
        receives = live on;
        bounds = bounds;
        world = e;
        heard = subst (λ (z : WiredSide). HearsIn side ((near side w).state.held ++ d.bytes) d.progress.closed (near side w) z) (sym at) (heard on);
      };
      ignores = λ off. ignored limit capacity side w v m left d new s (dead off) (none off) e;
    }

-- bytes arrive, and each part of the world is as it says
pub heard_at : OverBytes → (limit : Bounds) (capacity : ℕ) (side : Side) (w v : Wired) (m : Machine) (count : ℕ) (d : DeliveredBytes) (piece : List ℕ)
    (new : EndState) (out : List ℕ) → Stands limit capacity w m
    → d.side ≡ side → d.bytes ≡ take count (near side w).wire → piece ≡ d.bytes
    → d.lost ≡ (not (is_live (near side w).state.end.state) && nat_lt 0 (length d.bytes))
    → (is_live (near side w).state.end.state ≡ true
    → ReceivesAt side piece (near side w).state new d.progress.happenings d.progress.acknowledged d.progress.closed)
    → (is_live (near side w).state.end.state ≡ false → new ≡ (near side w).state)
    → (is_live (near side w).state.end.state ≡ false → (d.progress.happenings ≡ []) × (d.progress.acknowledged ≡ []) × (d.progress.closed ≡ None))
    → (is_live (near side w).state.end.state ≡ true → HearsIn side ((near side w).state.held ++ piece) d.progress.closed (near side w)
    (hearing (drop count (near side w).wire) new d.progress.happenings d.progress.acknowledged d.progress.closed (near side w)))
    → SameBounds (near side w).state new
    → (near side v).state ≡ written new → (near side v).clock ≡ (near side w).clock
    → (near side v).wire ≡ left_on d.progress.closed (drop count (near side w).wire)
    → (near side v).accepted ≡ (near side w).accepted → (near side v).handed ≡ handed_with d.progress.happenings (near side w).handed
    → (near side v).freed ≡ freed_with (near side w).accepted.at_least_once d.progress.acknowledged (near side w).freed
    → out ≡ new.output → (far side v).wire ≡ (far side w).wire ++ out → far side v ≡ record (far side w) { wire = (far side v).wire }
    → IsDelivered limit capacity side count d w v
heard_at law limit capacity side w v m count d piece new out s to bytes whole lost live dead none heard bounds state clock wire accepted handed freed
    is more rest =
    let x = hearing (drop count (near side w).wire) new d.progress.happenings d.progress.acknowledged d.progress.closed (near side w) in
    let other : far side v ≡ with_more new.output (far side w) =
    rest ∙ ap (λ (b : List ℕ). record (far side w) { wire = b }) (more ∙ ap (λ (b : List ℕ). (far side w).wire ++ b) is) in
    delivered_at law limit capacity side w v m count d new s to bytes lost
    (λ on. subst (λ (b : List ℕ). ReceivesAt side b (near side w).state new d.progress.happenings d.progress.acknowledged d.progress.closed) whole (live on))
    dead none (λ on. subst (λ (b : List ℕ). HearsIn side ((near side w).state.held ++ b) d.progress.closed (near side w) x) whole (heard on))
    bounds (split side v ∙ (λ j. facing side (same_side (near side v) x state clock wire accepted handed freed j) (other j)))

-- ---- a connection is lost, and opened

pub cut_same : (x : WiredSide) (new : EndState) (wire : List ℕ) → new.output ≡ [] → new.room.bytes ≡ 0 → wire ≡ []
    → record x { state = new; wire = wire } ≡ cut_off new x
cut_same x new wire out kept gone = λ i. record x { state = sym (written_same new out kept) i; wire = gone i }

pub on_ok : {A B : Type 0} (r : Result A B) (P : Type 0) → false ≡ is_err r → OnOk r P → P
on_ok (Ok a) P e h = h
on_ok (Err b) P e h = absurd (false_true e)
  where
    false_true : false ≡ true → ⊥
    false_true e = cc

pub on_err : {A B : Type 0} (r : Result A B) (P : Type 0) → true ≡ is_err r → OnErr r P → P
on_err (Err b) P e h = h
on_err (Ok a) P e h = absurd (true_false e)
  where
    true_false : true ≡ false → ⊥
    true_false e = cc

pub lost_at : OverBytes → (limit : Bounds) (capacity : ℕ) (side : Side) (w v : Wired) (was_open : Bool) (new : EndState)
    → was_open ≡ is_live (near side w).state.end.state
    → new.end ≡ over (near side w).state.end → SameBounds (near side w).state new → new.last_activity ≡ (near side w).state.last_activity
    → v ≡ facing side (cut_off new (near side w)) (far side w) → IsLost limit capacity side was_open w v
lost_at law limit capacity side w v was_open new is after bounds still e = record {
  said = is;
  wire = ap (λ (z : Wired). (near side z).wire) e ∙ ap (λ (z : WiredSide). z.wire) (near_facing side (cut_off new (near side w)) (far side w));
  other = ap (λ (z : Wired). far side z) e ∙ far_facing side (cut_off new (near side w)) (far side w);
  times = subst (λ (u : Wired). SameTimes w u) (sym e)
      (same_times side w (cut_off new (near side w)) (far side w) (record { clock = refl; last_activity = still }) (no_time (far side w)));
  moves = λ n t. subst (λ (u : Wired). Follows limit capacity n (By side Drops ∷ []) u) (sym e) (law.drop limit capacity side w n new t after bounds);
}

true_not : (b : Bool) → b ≡ true → b ≡ false → ⊥
true_not b e f = let g : true ≡ false = sym e ∙ f in cc

pub opened_at : OverBytes → (limit : Bounds) (capacity : ℕ) (w v : Wired) (o : Opening) (c s : EndState)
    → o.client_dropped ≡ is_live w.client.state.end.state → o.server_dropped ≡ is_live w.server.state.end.state → o.refused ≡ false
    → c.end ≡ (connects first_packet w.client.state.end).end → PutsOut (packets.Connect first_packet ∷ []) [] c.output → c.held ≡ []
    → SameBounds w.client.state c
    → s.end ≡ (opens w.server.state.end).end → s.held ≡ [] → SameBounds w.server.state s → c.last_activity ≡ w.client.clock → s.last_activity ≡ w.server.clock
    → v ≡ record { client = cut_off c w.client; server = with_more c.output (cut_off s w.server) } → IsOpened limit capacity o w v
opened_at law limit capacity w v o c s cd sd fine ce co ch cb se sh sb cm sm e = record {
  client_dropped = cd;
  server_dropped = sd;
  to_client = ap (λ (u : Wired). u.client.wire) e;
  out = λ said. subst (λ (u : Wired). PutsOut (packets.Connect first_packet ∷ []) [] u.server.wire) (sym e) co;
  begins = λ said. subst (λ (u : Wired). BeginsNow w u) (sym e) (record { client_clock = refl; server_clock = refl; client_moment = cm; server_moment = sm });
  opens = λ said n t. subst (λ (u : Wired). Follows limit capacity n (Opens ∷ []) u) (sym e) (law.opened limit capacity w n c s t ce co ch cb se sh sb);
  refused = λ said. absurd (true_not o.refused said fine);
}

pub refused_open : OverBytes → (limit : Bounds) (capacity : ℕ) (w v : Wired) (o : Opening) (c s : EndState)
    → o.client_dropped ≡ is_live w.client.state.end.state → o.server_dropped ≡ is_live w.server.state.end.state → o.refused ≡ true
    → c.end ≡ over w.client.state.end → SameBounds w.client.state c → s.end ≡ over w.server.state.end → SameBounds w.server.state s
    → c.last_activity ≡ w.client.state.last_activity → s.last_activity ≡ w.server.state.last_activity
    → v ≡ record { client = cut_off c w.client; server = cut_off s w.server } → IsOpened limit capacity o w v
refused_open law limit capacity w v o c s cd sd failed ce cb se sb cm sm e = record {
  client_dropped = cd;
  server_dropped = sd;
  to_client = ap (λ (u : Wired). u.client.wire) e;
  out = λ said. absurd (true_not o.refused failed said);
  begins = λ said. absurd (true_not o.refused failed said);
  opens = λ said. absurd (true_not o.refused failed said);
  refused = λ _. (
    ap (λ (u : Wired). u.server.wire) e,
    subst (λ (u : Wired). SameTimes w u) (sym e) (record { client = record { clock = refl; last_activity = cm }; server = record { clock = refl; last_activity = sm } }),
    λ n t. subst (λ (u : Wired). Follows limit capacity n (By Client Drops ∷ By Server Drops ∷ []) u) (sym e)
        (law.drop_both limit capacity w n c s t ce cb se sb),
  );
}

-- a new world
pub new_at : OverBytes → (limit : Bounds) (capacity : ℕ) (window : Option ℕ) (w : Wired) (c s : EndState) → 64 ≤ limit.most → c.end ≡ blank_end window
    → c.limit ≡ limit → c.capacity ≡ capacity → s.end ≡ blank_end window → s.limit ≡ limit → s.capacity ≡ capacity
    → w ≡ record { client = blank_side c; server = blank_side s } → Stands limit capacity w (blank_machine window)
new_at law limit capacity window w c s large ce cl cc_ se sl sc e =
    subst (λ (u : Wired). Stands limit capacity u (blank_machine window)) (sym e) (law.blank limit capacity window c s large ce cl cc_ se sl sc)

-- ---- one event after another

-- a machine that a world carries, whose sides have the windows of another
abbrev pub StandsStill : Bounds → ℕ → Wired → Machine → Type 0
StandsStill limit capacity v m = (n : Machine) × Stands limit capacity v n × SameWindows m n

stands_moved : (limit : Bounds) (capacity : ℕ) (w v : Wired) (m : Machine) (moves : List Move) → Stands limit capacity w m
    → Moves limit capacity w moves v → StandsStill limit capacity v m
stands_moved limit capacity w v m moves s f = let g = f m s in (g.machine, g.stands, run_windows limit.most capacity m moves g.machine g.run)

pub live_or_not : (b : Bool) (A : Type 0) → (b ≡ true → A) → (b ≡ false → A) → A
live_or_not true A f g = f refl
live_or_not false A f g = g refl

pub stands_delivered : OverBytes → (limit : Bounds) (capacity : ℕ) (side : Side) (w v : Wired) (m : Machine) (count : ℕ) (d : DeliveredBytes)
    → Stands limit capacity w m → IsDelivered limit capacity side count d w v → StandsStill limit capacity v m
stands_delivered law limit capacity side w v m count d s h = live_or_not (is_live (near side w).state.end.state) (StandsStill limit capacity v m)
    (λ on. let a = h.arrive on m s in let g = a.follows in (g.machine, g.stands, run_windows limit.most capacity m a.moves g.machine g.run))
    (λ off. (
      m,
      subst (λ (u : Wired). Stands limit capacity u m) (sym (h.ignores off).world)
          (law.unheard limit capacity side w m (drop count (near side w).wire) s off),
      (refl, refl),
    ))

pub stands_opened : (limit : Bounds) (capacity : ℕ) (w v : Wired) (m : Machine) (o : Opening) → Stands limit capacity w m
    → IsOpened limit capacity o w v → StandsStill limit capacity v m
stands_opened limit capacity w v m o s h = live_or_not o.refused (StandsStill limit capacity v m)
    (λ said. stands_moved limit capacity w v m (By Client Drops ∷ By Server Drops ∷ []) s (h.refused said).2)
    (λ said. stands_moved limit capacity w v m (Opens ∷ []) s (h.opens said))

-- an event more at the end
pub leads_more : (limit : Bounds) (capacity : ℕ) (es : List Event) (rest : List Answer) (e : Event) (a : Answer) (u v w : Wired)
    → Leads limit capacity es rest u v → Does limit capacity e a v w → Leads limit capacity (es ++ e ∷ []) (rest ++ a ∷ []) u w
leads_more limit capacity [] [] e a u v w h d = (w, subst (λ (x : Wired). Does limit capacity e a x w) h d, refl)
leads_more limit capacity (f ∷ es) (b ∷ rest) e a u v w h d = (h.0, h.1, leads_more limit capacity es rest e a h.0 v w h.2 d)
leads_more limit capacity [] (b ∷ rest) e a u v w h d = absurd h
leads_more limit capacity (f ∷ es) [] e a u v w h d = absurd h

-- a side more at the end
pub turn_more : (limit : Bounds) (capacity : ℕ) (sides : List Side) (ds : List DeliveredBytes) (side : Side) (d : DeliveredBytes) (u v w : Wired)
    → InTurn limit capacity sides ds u v → IsDelivered limit capacity side (length (near side v).wire) d v w
    → InTurn limit capacity (sides ++ side ∷ []) (ds ++ d ∷ []) u w
turn_more limit capacity [] [] side d u v w h k = (w, subst (λ (x : Wired). IsDelivered limit capacity side (length (near side x).wire) d x w) h k, refl)
turn_more limit capacity (s ∷ sides) (b ∷ ds) side d u v w h k = (h.0, h.1, turn_more limit capacity sides ds side d h.0 v w h.2 k)
turn_more limit capacity [] (b ∷ ds) side d u v w h k = absurd h
turn_more limit capacity (s ∷ sides) [] side d u v w h k = absurd h

pub stands_turned : OverBytes → (limit : Bounds) (capacity : ℕ) (sides : List Side) (ds : List DeliveredBytes) (u v : Wired) (m : Machine)
    → Stands limit capacity u m → InTurn limit capacity sides ds u v → StandsStill limit capacity v m
stands_turned law limit capacity [] [] u v m s h = (m, subst (λ (x : Wired). Stands limit capacity x m) (sym h) s, (refl, refl))
stands_turned law limit capacity (side ∷ sides) (d ∷ ds) u v m s h =
    let g = stands_delivered law limit capacity side u h.0 m (length (near side u).wire) d s h.1 in
    let k = stands_turned law limit capacity sides ds h.0 v g.0 g.1 h.2 in
    (k.0, k.1, windows_then m g.0 k.0 g.2 k.2)
stands_turned law limit capacity [] (d ∷ ds) u v m s h = absurd h
stands_turned law limit capacity (side ∷ sides) [] u v m s h = absurd h

pub turn_next : (limit : Bounds) (capacity : ℕ) (sides : List Side) (k : ℕ) (ds : List DeliveredBytes) (side other : Side) (d : DeliveredBytes) (u v w : Wired)
    → k < length sides → side ≡ get_or sides k other
    → InTurn limit capacity (take k sides) ds u v → IsDelivered limit capacity side (length (near side v).wire) d v w
    → InTurn limit capacity (take (k + 1) sides) (ds ++ d ∷ []) u w
turn_next limit capacity sides k ds side other d u v w below at h come =
    let e : take (k + 1) sides ≡ take k sides ++ side ∷ [] =
    ap (λ n. take n sides) (add-one k) ∙ take-suc sides k other below ∙ ap (λ z. take k sides ++ z ∷ []) (sym at) in
    subst (λ (ss : List Side). InTurn limit capacity ss (ds ++ d ∷ []) u w) (sym e) (turn_more limit capacity (take k sides) ds side d u v w h come)

pub leads_next : (limit : Bounds) (capacity : ℕ) (es : List Event) (k : ℕ) (rest : List Answer) (e : Event) (a : Answer) (u v w : Wired)
    → k < length es → e ≡ get_or es k e
    → Leads limit capacity (take k es) rest u v → Does limit capacity e a v w → Leads limit capacity (take (k + 1) es) (rest ++ a ∷ []) u w
leads_next limit capacity es k rest e a u v w below at h come =
    let f : take (k + 1) es ≡ take k es ++ e ∷ [] = ap (λ n. take n es) (add-one k) ∙ take-suc es k e below ∙ ap (λ z. take k es ++ z ∷ []) (sym at) in
    subst (λ (ss : List Event). Leads limit capacity ss (rest ++ a ∷ []) u w) (sym f) (leads_more limit capacity (take k es) rest e a u v w h come)

pub stands_settled : OverBytes → (limit : Bounds) (capacity : ℕ) (w v : Wired) (m : Machine) (s : Settling) → Stands limit capacity w m
    → IsSettled limit capacity s w v → StandsStill limit capacity v m
stands_settled law limit capacity w v m s t h =
    let g = stands_opened limit capacity w h.between m s.opening t h.opened in
    let k = stands_turned law limit capacity (take 4 exchanges) (take 4 s.deliveries) h.between h.second g.0 g.1 h.exchanged_twice in
    let z = stands_turned law limit capacity (drop 4 exchanges) (drop 4 s.deliveries) h.second v k.0 k.1 h.exchanged_again in
    (z.0, z.1, windows_then m g.0 z.0 g.2 (windows_then g.0 k.0 z.0 k.2 z.2))
