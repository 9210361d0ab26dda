-- The state after settling, from the effects of its opening and its deliveries.
use Rattle.std.proofs.Common.{◌≡◌, ◌≢◌, ℕ, zero, suc, true, false, Some, List, [], ◌∷◌, length, take, drop, refl, sym, ap, subst, ◌∙◌}
use Rattle.std.specs.List.{All}
use Rattle.std.proofs.Math.Seq.{take-length, drop-length}
use Rattle.std.proofs.lemmas.List.Elements.{All-head, All-tail, All-take}
use Rattle.mq_decode.specs.Limits.{Bounds}
use Rattle.mq_end.specs.declared.reason.CloseReason.TheVariants as reasons
use Rattle.mq_end.specs.End.{is_live}
use Rattle.mq_world.specs.declared.side.Side.{Side}
use Rattle.mq_world.specs.declared.answer.Answer.TheVariants as answers
use Rattle.mq_world.specs.declared.answer.DeliveredBytes.{DeliveredBytes}
use Rattle.mq_world.specs.declared.answer.Opening.{Opening}
use Rattle.mq_world.specs.declared.answer.Settling.{Settling}
use Rattle.mq_world.specs.Machine.{Machine, Opens, after}
use Rattle.mq_world.specs.Settling.{delivered, exchange}
use Rattle.mq_world.specs.Carries.{Wired, IsSpanned}
use Rattle.mq_world.specs.OverBytes.{Stands, ReceivesAt, near, far, facing, with_more, hearing}
use Rattle.mq_world.specs.SettlesOver.{SettlesOver, SettledFrom, HoldsNothing}
use Rattle.mq_world.specs.World.{IsDelivered, IsOpened, InTurn, MetNoWant, exchanges}
use Rattle.mq_world.proofs.Worlds.{live_or_not, stands_opened}

-- ---- one delivery after another

-- The end did not close because an allocation failed.
abbrev pub IsFed : DeliveredBytes → Type 0
IsFed d = d.progress.closed ≢ Some reasons.Memory

-- the machine, after all came that was in flight to each of these sides
abbrev pub turned : List Side → Machine → Machine
turned [] m = m
turned (side ∷ sides) m = turned sides (delivered side m)

-- If all bytes of a wire arrive at a side with a connection, all packets of the machine's queue do.
come_heard : SettlesOver → (limit : Bounds) (capacity : ℕ) (side : Side) (w v : Wired) (m : Machine) (d : DeliveredBytes) → Stands limit capacity w m
    → IsDelivered limit capacity side (length (near side w).wire) d w v → is_live (near side w).state.end.state ≡ true → IsFed d
    → Stands limit capacity v (delivered side m)
come_heard law limit capacity side w v m d s h on fed =
    let x = h.hears on in
    let bytes : d.bytes ≡ (near side w).wire = h.bytes ∙ take-length (near side w).wire in
    let receives =
    subst (λ (b : List ℕ). ReceivesAt side b (near side w).state x.state d.progress.happenings d.progress.acknowledged d.progress.closed) bytes
    x.receives in
    let same = x.world ∙ ap (λ (left : List ℕ). facing side
    (hearing left x.state d.progress.happenings d.progress.acknowledged d.progress.closed (near side w))
    (with_more x.state.output (far side w))) (drop-length (near side w).wire) in
    subst (λ (u : Wired). Stands limit capacity u (delivered side m)) (sym same)
    (law.deliver_all limit capacity side w m x.state d.progress.happenings d.progress.acknowledged d.progress.closed s on receives x.bounds fed)

-- they are lost at a side without one, and no packet is in its queue
come_lost : SettlesOver → (limit : Bounds) (capacity : ℕ) (side : Side) (w v : Wired) (m : Machine) (d : DeliveredBytes) → Stands limit capacity w m
    → IsDelivered limit capacity side (length (near side w).wire) d w v → is_live (near side w).state.end.state ≡ false
    → Stands limit capacity v (delivered side m)
come_lost law limit capacity side w v m d s h off =
    let same = (h.ignores off).world ∙
    ap (λ (left : List ℕ). facing side (record (near side w) { wire = left }) (far side w)) (drop-length (near side w).wire) in
    subst (λ (u : Wired). Stands limit capacity u (delivered side m)) (sym same) (law.lose_all limit capacity side w m s off)

come_all : SettlesOver → (limit : Bounds) (capacity : ℕ) (side : Side) (w v : Wired) (m : Machine) (d : DeliveredBytes) → Stands limit capacity w m
    → IsDelivered limit capacity side (length (near side w).wire) d w v → IsFed d → Stands limit capacity v (delivered side m)
come_all law limit capacity side w v m d s h fed = live_or_not (is_live (near side w).state.end.state) (Stands limit capacity v (delivered side m))
    (λ on. come_heard law limit capacity side w v m d s h on fed) (λ off. come_lost law limit capacity side w v m d s h off)

-- all bytes of one wire after another come
stands_after : SettlesOver → (limit : Bounds) (capacity : ℕ) (sides : List Side) (ds : List DeliveredBytes) (w v : Wired) (m : Machine)
    → Stands limit capacity w m → InTurn limit capacity sides ds w v → All IsFed ds → Stands limit capacity v (turned sides m)
stands_after law limit capacity [] [] w v m s h fed = subst (λ (u : Wired). Stands limit capacity u m) (sym h) s
stands_after law limit capacity (side ∷ sides) (d ∷ ds) w v m s h fed =
    stands_after law limit capacity sides ds h.0 v (delivered side m) (come_all law limit capacity side w h.0 m d s h.1 (All-head IsFed d ds fed)) h.2
    (All-tail IsFed d ds fed)
stands_after law limit capacity [] (d ∷ ds) w v m s h fed = absurd h
stands_after law limit capacity (side ∷ sides) [] w v m s h fed = absurd h

-- a chain of deliveries, with the world after the first n of them
pub turn_split : (limit : Bounds) (capacity n : ℕ) (sides : List Side) (ds : List DeliveredBytes) (w v : Wired) → InTurn limit capacity sides ds w v
    → (u : Wired) × InTurn limit capacity (take n sides) (take n ds) w u × InTurn limit capacity (drop n sides) (drop n ds) u v
turn_split limit capacity zero sides ds w v h = (w, refl, h)
turn_split limit capacity (suc n) [] [] w v h = (w, refl, h)
turn_split limit capacity (suc n) (side ∷ sides) (d ∷ ds) w v h =
    let g = turn_split limit capacity n sides ds h.0 v h.2 in
    (g.0, (h.0, h.1, g.1), g.2)
turn_split limit capacity (suc n) [] (d ∷ ds) w v h = absurd h
turn_split limit capacity (suc n) (side ∷ sides) [] w v h = absurd h

-- ---- settling

-- all the exchanges of a loop that went over them
pub all_turned : (limit : Bounds) (capacity n : ℕ) (ds items : List DeliveredBytes) (w between v : Wired) (m : Machine) (o : Opening) → n ≡ 6 → items ≡ ds
    → Stands limit capacity w m → IsOpened limit capacity o w between
    → ((m : Machine) → Stands limit capacity between m → InTurn limit capacity (take n exchanges) ds between v)
    → InTurn limit capacity exchanges items between v
all_turned limit capacity n ds items w between v m o all same k opened turns =
    let g = stands_opened limit capacity w between m o k opened in
    subst (λ (z : List DeliveredBytes). InTurn limit capacity exchanges z between v) (sym same)
    (subst (λ (z : ℕ). InTurn limit capacity (take z exchanges) ds between v) all (turns g.0 g.1))

-- the opening that was not refused
stands_open : (limit : Bounds) (capacity : ℕ) (w v : Wired) (m : Machine) (o : Opening) → Stands limit capacity w m → IsOpened limit capacity o w v
    → o.refused ≡ false → Stands limit capacity v (after m Opens)
stands_open limit capacity w v m o s h fine = let f = h.opens fine m s in subst (λ (n : Machine). Stands limit capacity v n) f.run.1 f.stands

-- the machine of the world after the second exchange
stands_twice : SettlesOver → (limit : Bounds) (capacity : ℕ) (w between second : Wired) (m : Machine) (s : Settling) → Stands limit capacity w m
    → IsOpened limit capacity s.opening w between
    → InTurn limit capacity (take 4 exchanges) (take 4 s.deliveries) between second → MetNoWant (answers.Settled s)
    → Stands limit capacity second (exchange (exchange (after m Opens)))
stands_twice law limit capacity w between second m s k opened twice met =
    stands_after law limit capacity (take 4 exchanges) (take 4 s.deliveries) between second (after m Opens)
    (stands_open limit capacity w between m s.opening k opened met.0) twice (All-take IsFed 4 s.deliveries met.1)

pub left_twice : SettlesOver → (limit : Bounds) (capacity : ℕ) (w between second : Wired) (m : Machine) (s : Settling) → Stands limit capacity w m
    → IsOpened limit capacity s.opening w between
    → InTurn limit capacity (take 4 exchanges) (take 4 s.deliveries) between second → IsSpanned capacity w → MetNoWant (answers.Settled s) → HoldsNothing second
left_twice law limit capacity w between second m s k opened twice spans met =
    law.second limit capacity w second m spans k (stands_twice law limit capacity w between second m s k opened twice met)

pub left_settled : SettlesOver → (limit : Bounds) (capacity : ℕ) (w between v : Wired) (m : Machine) (s : Settling) → Stands limit capacity w m
    → IsOpened limit capacity s.opening w between
    → InTurn limit capacity exchanges s.deliveries between v → IsSpanned capacity w → MetNoWant (answers.Settled s) → SettledFrom w v
left_settled law limit capacity w between v m s k opened all spans met =
    law.settles limit capacity w v m spans k
    (stands_after law limit capacity exchanges s.deliveries between v (after m Opens)
    (stands_open limit capacity w between m s.opening k opened met.0) all met.1)
