-- A world whose windows are at least its capacity: no answer reports a close because of a window.
use Rattle.std.proofs.Common.{◌≡◌, ◌≢◌, ℕ, ◌&&◌, Option, Some, Ok, Err, List, [], ◌∷◌, length, take, drop}
use Rattle.std.proofs.Common.{sym, ap, subst, ◌∙◌}
use Rattle.std.specs.List.{All}
use Rattle.std.proofs.lemmas.Bool.{cond_both}
use Rattle.std.proofs.lemmas.List.{take-append-drop}
use Rattle.std.proofs.lemmas.List.Elements.{All-nil, All-cons, All-append}
use Rattle.mq_decode.specs.Limits.{Bounds}
use Rattle.mq_flow.specs.Window.{Spans}
use Rattle.mq_end.specs.declared.reason.CloseReason.TheVariants as reasons
use Rattle.mq_end.specs.End.{End, Reply, closes, silent, is_live, is_up}
use Rattle.mq_end.specs.KeepAlive.{is_late}
use Rattle.mq_end.specs.State.{EndState}
use Rattle.mq_world.specs.declared.side.Side.{Side}
use Rattle.mq_world.specs.declared.side.Side.TheVariants.{Client, Server}
use Rattle.mq_world.specs.declared.event.Event.{Event}
use Rattle.mq_world.specs.declared.event.Event.TheVariants as events
use Rattle.mq_world.specs.declared.answer.Answer.{Answer}
use Rattle.mq_world.specs.declared.answer.Answer.TheVariants as answers
use Rattle.mq_world.specs.declared.answer.DeliveredBytes.{DeliveredBytes}
use Rattle.mq_world.specs.declared.answer.Settling.{Settling}
use Rattle.mq_world.specs.Machine.{Machine}
use Rattle.mq_world.specs.Carries.{Wired, IsSpanned, HaveWindow}
use Rattle.mq_world.specs.OverBytes.{OverBytes, Stands, near}
use Rattle.mq_world.specs.Time.{later, time_closes}
use Rattle.mq_world.specs.World.{IsDelivered, IsSettled, IsNeverFull, Does, InTurn, exchanges}
use Rattle.mq_world.proofs.Windows.{SameWindows, IsOther, not_window}
use Rattle.mq_world.proofs.Standing.{side_near}
use Rattle.mq_world.proofs.Worlds.{live_or_not, stands_delivered, stands_opened, stands_turned}

-- ---- the windows of a world

-- those of a world are those of the machine that it carries
pub kept_windows : (limit : Bounds) (capacity : ℕ) (w v : Wired) (m n : Machine) → Stands limit capacity w m → Stands limit capacity v n → SameWindows m n
    → (v.client.state.end.window ≡ w.client.state.end.window) × (v.server.state.end.window ≡ w.server.state.end.window)
kept_windows limit capacity w v m n s t same =
    let at : (e : End) → Option ℕ = λ e. e.window in (
      ap at t.carries.client.end ∙ (same.0 ∙ ap at (sym s.carries.client.end)),
      ap at t.carries.server.end ∙ (same.1 ∙ ap at (sym s.carries.server.end)),
    )

pub have_still : (limit : Bounds) (capacity : ℕ) (window : Option ℕ) (w v : Wired) (m n : Machine) → Stands limit capacity w m
    → Stands limit capacity v n → SameWindows m n → HaveWindow window w → HaveWindow window v
have_still limit capacity window w v m n s t same h = let k = kept_windows limit capacity w v m n s t same in (k.0 ∙ h.0, k.1 ∙ h.1)

spanned_still : (limit : Bounds) (capacity : ℕ) (w v : Wired) (m n : Machine) → Stands limit capacity w m → Stands limit capacity v n
    → SameWindows m n → IsSpanned capacity w → IsSpanned capacity v
spanned_still limit capacity w v m n s t same h =
    let k = kept_windows limit capacity w v m n s t same in
    let P : Option ℕ → Type 0 = λ o. Spans o capacity in
    (subst P (sym k.0) h.0, subst P (sym k.1) h.1)

pub have_spanned : (capacity : ℕ) (window : Option ℕ) (w : Wired) → HaveWindow window w → Spans window capacity → IsSpanned capacity w
have_spanned capacity window w h spans = let P : Option ℕ → Type 0 = λ o. Spans o capacity in (subst P (sym h.0) spans, subst P (sym h.1) spans)

near_spans : (capacity : ℕ) (side : Side) (w : Wired) → IsSpanned capacity w → Spans (near side w).state.end.window capacity
near_spans capacity Client w h = h.0
near_spans capacity Server w h = h.1

-- ---- deliveries

-- the end did not close because of its window
abbrev pub IsFitting : DeliveredBytes → Type 0
IsFitting d = d.progress.closed ≢ Some reasons.Window

fits_delivered : (limit : Bounds) (capacity : ℕ) (side : Side) (w v : Wired) (m : Machine) (count : ℕ) (d : DeliveredBytes) → Stands limit capacity w m
    → IsDelivered limit capacity side count d w v → IsSpanned capacity w → IsFitting d
fits_delivered limit capacity side w v m count d s h spans = live_or_not (is_live (near side w).state.end.state) (IsFitting d)
    (λ on. (h.arrive on m s).fits (subst (λ (e : End). Spans e.window capacity) (side_near limit capacity side w m s.carries).end
    (near_spans capacity side w spans)))
    (λ off. not_window d.progress.closed (subst IsOther (sym (h.ignores off).closed) tt))

fits_turned : OverBytes → (limit : Bounds) (capacity : ℕ) (sides : List Side) (ds : List DeliveredBytes) (u v : Wired) (m : Machine)
    → Stands limit capacity u m → InTurn limit capacity sides ds u v → IsSpanned capacity u → All IsFitting ds
fits_turned law limit capacity [] [] u v m s h spans = All-nil IsFitting
fits_turned law limit capacity (side ∷ sides) (d ∷ ds) u v m s h spans =
    let g = stands_delivered law limit capacity side u h.0 m (length (near side u).wire) d s h.1 in
    All-cons IsFitting d ds (fits_delivered limit capacity side u h.0 m (length (near side u).wire) d s h.1 spans)
    (fits_turned law limit capacity sides ds h.0 v g.0 g.1 h.2 (spanned_still limit capacity u h.0 m g.0 s g.1 g.2 spans))
fits_turned law limit capacity [] (d ∷ ds) u v m s h spans = absurd h
fits_turned law limit capacity (side ∷ sides) [] u v m s h spans = absurd h

pub fits_settled : OverBytes → (limit : Bounds) (capacity : ℕ) (w v : Wired) (m : Machine) (s : Settling) → Stands limit capacity w m
    → IsSettled limit capacity s w v → IsSpanned capacity w → All IsFitting s.deliveries
fits_settled law limit capacity w v m s t h spans =
    let g = stands_opened limit capacity w h.between m s.opening t h.opened in
    let one = spanned_still limit capacity w h.between m g.0 t g.1 g.2 spans in
    let k = stands_turned law limit capacity (take 4 exchanges) (take 4 s.deliveries) h.between h.second g.0 g.1 h.exchanged_twice in
    let two = spanned_still limit capacity h.between h.second g.0 k.0 g.1 k.1 k.2 one in
    let a = fits_turned law limit capacity (take 4 exchanges) (take 4 s.deliveries) h.between h.second g.0 g.1 h.exchanged_twice one in
    let b = fits_turned law limit capacity (drop 4 exchanges) (drop 4 s.deliveries) h.second v k.0 k.1 h.exchanged_again two in
    subst (All IsFitting) (take-append-drop 4 s.deliveries) (All-append IsFitting (take 4 s.deliveries) (drop 4 s.deliveries) a b)

-- ---- every event

time_other : (side : Side) (now : ℕ) (s : EndState) → IsOther (time_closes side now s)
time_other Client now s = tt
time_other Server now s =
    cond_both (is_up s.end.state && is_late s.last_activity s.end.keep_alive now) (closes reasons.KeepAlive s.end) (silent s.end)
    (λ (r : Reply). IsOther r.close) (λ t. tt) (λ f. tt)

pub fits_done : (limit : Bounds) (capacity : ℕ) (event : Event) (answer : Answer) (w v : Wired) (m : Machine) → Stands limit capacity w m
    → Does limit capacity event answer w v → IsSpanned capacity w → IsNeverFull answer
fits_done limit capacity event (answers.Published at r) w v m s h spans = tt
fits_done limit capacity event (answers.Dropped at b) w v m s h spans = tt
fits_done limit capacity event (answers.Restarted b r) w v m s h spans = tt
fits_done limit capacity event (answers.Left r) w v m s h spans = tt
fits_done limit capacity event (answers.Opened o) w v m s h spans = tt
fits_done limit capacity (events.Deliver side count) (answers.Delivered d) w v m s h spans = fits_delivered limit capacity side w v m count d s h spans
fits_done limit capacity (events.Publish side message) (answers.Delivered d) w v m s h spans = absurd h
fits_done limit capacity (events.Drop side) (answers.Delivered d) w v m s h spans = absurd h
fits_done limit capacity events.Restart (answers.Delivered d) w v m s h spans = absurd h
fits_done limit capacity events.Leave (answers.Delivered d) w v m s h spans = absurd h
fits_done limit capacity events.Open (answers.Delivered d) w v m s h spans = absurd h
fits_done limit capacity (events.Tick side more) (answers.Delivered d) w v m s h spans = absurd h
fits_done limit capacity (events.Tick side more) (answers.Ticked at (Ok closed)) w v m s h spans =
    not_window closed (subst IsOther (sym h.1.closes) (time_other side (later (near side w).clock more) (near side w).state))
fits_done limit capacity (events.Publish side message) (answers.Ticked at (Ok closed)) w v m s h spans = absurd h
fits_done limit capacity (events.Deliver side count) (answers.Ticked at (Ok closed)) w v m s h spans = absurd h
fits_done limit capacity (events.Drop side) (answers.Ticked at (Ok closed)) w v m s h spans = absurd h
fits_done limit capacity events.Restart (answers.Ticked at (Ok closed)) w v m s h spans = absurd h
fits_done limit capacity events.Leave (answers.Ticked at (Ok closed)) w v m s h spans = absurd h
fits_done limit capacity events.Open (answers.Ticked at (Ok closed)) w v m s h spans = absurd h
fits_done limit capacity event (answers.Ticked at (Err why)) w v m s h spans = tt
fits_done limit capacity (events.Publish side message) (answers.Settled o) w v m s h spans = absurd h
fits_done limit capacity (events.Deliver side count) (answers.Settled o) w v m s h spans = absurd h
fits_done limit capacity (events.Drop side) (answers.Settled o) w v m s h spans = absurd h
fits_done limit capacity events.Restart (answers.Settled o) w v m s h spans = absurd h
fits_done limit capacity events.Leave (answers.Settled o) w v m s h spans = absurd h
fits_done limit capacity events.Open (answers.Settled o) w v m s h spans = absurd h
fits_done limit capacity (events.Tick side more) (answers.Settled o) w v m s h spans = absurd h
