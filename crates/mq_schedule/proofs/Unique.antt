-- Texts that are at most one schedule.
use Rattle.std.proofs.Common.{◌≡◌, ◌≢◌, ℕ, ◌/◌, ◌%◌, ◌<◌, Bool, true, false, Option, Some, None, List, [], ◌∷◌, ◌++◌, get_or, codes, refl, sym, ap, subst, inl, inr, ◌∙◌, arith}
use Rattle.std.specs.Int.NonZero.{non_zero_u16_get}
use Rattle.std.specs.Fmt.{digit_glyph}
use Rattle.std.specs.Str.Parse.{IsNumeral, digits_value}
use Rattle.hex.specs.Hex.{IsBytes}
use Rattle.mq_topic.specs.declared.qos.Qos.{Qos}
use Rattle.mq_topic.specs.declared.qos.Qos.TheVariants.{Q0, Q1, Q2}
use Rattle.mq_topic.specs.Qos.{qos_number}
use Rattle.mq_packet.specs.declared.message.Message.{Message}
use Rattle.mq_decode.specs.Limits.{Bounds}
use Rattle.mq_world.specs.declared.side.Side.{Side}
use Rattle.mq_world.specs.declared.side.Side.TheVariants.{Client, Server}
use Rattle.mq_world.specs.declared.event.Event.{Event as WorldEvent}
use Rattle.mq_world.specs.declared.event.Event.TheVariants as events
use Rattle.mq_packet.specs.Lines.{byte_digits, escaped, escaped_byte, hex_of}
use Rattle.mq_schedule.specs.declared.schedule.Step.{Step}
use Rattle.mq_schedule.specs.declared.schedule.Step.TheVariants.{Event, Settle}
use Rattle.mq_schedule.specs.declared.schedule.Schedule.{Schedule}
use Rattle.mq_schedule.specs.Schedule.{HasNoStep, HasNoWorld, IsAmount, IsBadLine, IsNumber, IsPublication, IsSchedule, IsWindow, IsWorldLine, Writes, bytes_word, lines_of, number_of, publish_word, side_word, words_of}
use Rattle.mq_schedule.specs.Parts.{AreSteps}
use Rattle.mq_schedule.specs.Writing.{schedule_text}
use Rattle.mq_schedule.specs.Laws.{InBounds, SameSchedule, ScheduleLaws}
use Rattle.mq_schedule.proofs.Codes.{digits_code, escaped_code, same_codes, two_digits}
use Rattle.mq_schedule.proofs.Laying.{schedule_back, world_is}
use Rattle.mq_schedule.proofs.Octets.{name_bytes}

-- ---- words

-- a word is at most one number
pub same_number : (a b : ℕ) (v w : List ℕ) → v ≡ w → IsNumber a v → IsNumber b w → a ≡ b
same_number a b v w e h k = sym h.value ∙ ap (digits_value 10) e ∙ k.value

-- `all` is no number
all_letters : ¬ IsNumeral 10 (codes "all")
all_letters h = absurd (omega (arith, h.1.0))

no_number : (n : ℕ) (word : List ℕ) → word ≡ codes "all" → ¬ IsNumber n word
no_number n word e h = all_letters (subst (IsNumeral 10) e h.digits)

-- a word is at most one amount
same_amount : (a b : ℕ) (v w : List ℕ) → v ≡ w → IsAmount a v → IsAmount b w → a ≡ b
same_amount a b v w e (inl h) (inl k) = same_number a b v w e h k
same_amount a b v w e (inl h) (inr k) = absurd (no_number a v (e ∙ k.0) h)
same_amount a b v w e (inr h) (inl k) = absurd (no_number b w (sym e ∙ h.0) k)
same_amount a b v w e (inr h) (inr k) = h.1 ∙ sym k.1

same_side : (a b : Side) → side_word a ≡ side_word b → a ≡ b
same_side Client Client e = refl
same_side Client Server e = let letters : 99 ≡ 115 = ap (λ (word : List ℕ). get_or word 0 0) e in absurd (omega (arith, letters))
same_side Server Client e = let letters : 115 ≡ 99 = ap (λ (word : List ℕ). get_or word 0 0) e in absurd (omega (arith, letters))
same_side Server Server e = refl

same_retain : (a b : Bool) → publish_word a ≡ publish_word b → a ≡ b
same_retain false false e = refl
same_retain false true e = absurd (cc e)
same_retain true false e = absurd (cc e)
same_retain true true e = refl

pub same_qos : (a b : Qos) → qos_number a ≡ qos_number b → a ≡ b
same_qos Q0 Q0 e = refl
same_qos Q0 Q1 e = absurd (cc e)
same_qos Q0 Q2 e = absurd (cc e)
same_qos Q1 Q0 e = absurd (cc e)
same_qos Q1 Q1 e = refl
same_qos Q1 Q2 e = absurd (cc e)
same_qos Q2 Q0 e = absurd (cc e)
same_qos Q2 Q1 e = absurd (cc e)
same_qos Q2 Q2 e = refl

-- the digits of a byte and more are no `-`
digits_no_dash : (b : ℕ) (bytes : List ℕ) → b < 256 → codes "-" ≢ byte_digits b ++ bytes
digits_no_dash b bytes lt e =
    let two : codes "-" ≡ digit_glyph false (b / 16) ∷ digit_glyph false (b % 16) ∷ bytes = e ∙ ap (λ (t : List ℕ). t ++ bytes) (two_digits b lt) in
    absurd (cc two)

-- a word is at most one payload
pub same_payload : (a b : List ℕ) → IsBytes a → IsBytes b → bytes_word a ≡ bytes_word b → a ≡ b
same_payload [] [] h k e = refl
same_payload [] (y ∷ b) h k e = absurd (digits_no_dash y (hex_of b) (k 0) e)
same_payload (x ∷ a) [] h k e = absurd (digits_no_dash x (hex_of a) (h 0) (sym e))
same_payload (x ∷ a) (y ∷ b) h k e = same_codes byte_digits digits_code (x ∷ a) (y ∷ b) h k e

-- ---- steps

-- The third byte of the first word, 0 if it has none: it differs for each kind of step.
abbrev mark : List (List ℕ) → ℕ
mark words = get_or (get_or words 0 []) 2 0

abbrev mark_of : Step → ℕ
mark_of (Event (events.Publish side m)) = 98
mark_of (Event (events.Deliver side n)) = 0
mark_of (Event (events.Drop side)) = 111
mark_of (Event events.Restart) = 115
mark_of (Event events.Leave) = 97
mark_of (Event events.Open) = 101
mark_of (Event (events.Tick side n)) = 99
mark_of Settle = 116

-- an event is no `settle`
event_mark : (event : WorldEvent) → mark_of (Event event) ≢ 116
event_mark (events.Publish side m) e = absurd (omega (arith, e))
event_mark (events.Deliver side n) e = absurd (omega (arith, e))
event_mark (events.Drop side) e = absurd (omega (arith, e))
event_mark events.Restart e = absurd (omega (arith, e))
event_mark events.Leave e = absurd (omega (arith, e))
event_mark events.Open e = absurd (omega (arith, e))
event_mark (events.Tick side n) e = absurd (omega (arith, e))

publish_mark : (retain : Bool) → get_or (publish_word retain) 2 0 ≡ 98
publish_mark false = refl
publish_mark true = refl

marked : (step : Step) (words : List (List ℕ)) → Writes step words → mark words ≡ mark_of step
marked (Event (events.Publish side m)) words h = ap mark h.words_are ∙ publish_mark m.retain
marked (Event (events.Deliver side n)) words h = ap mark h.2
marked (Event (events.Drop side)) words h = ap mark h
marked (Event events.Restart) words h = ap mark h
marked (Event events.Leave) words h = ap mark h
marked (Event events.Open) words h = ap mark h
marked (Event (events.Tick side n)) words h = ap mark h.2
marked Settle words h = ap mark h

-- words are at most one publication
same_publication : (a b : Side) (m n : Message) (words : List (List ℕ)) → IsPublication a m words → IsPublication b n words → (a ≡ b) × (m ≡ n)
same_publication a b m n words h k =
    let same = sym h.words_are ∙ k.words_are in
    let commands : publish_word m.retain ≡ publish_word n.retain = cc same in
    let sides : side_word a ≡ side_word b = cc same in
    let numbers : h.qos ≡ k.qos = cc same in
    let names : escaped m.topic ≡ escaped n.topic = cc same in
    let words : bytes_word m.payload ≡ bytes_word n.payload = cc same in
    let topics = same_codes escaped_byte escaped_code m.topic n.topic (name_bytes m.topic h.topic) (name_bytes n.topic k.topic) names in
    let payloads = same_payload m.payload n.payload h.payload k.payload words in
    let qualities = same_qos m.qos n.qos (same_number (qos_number m.qos) (qos_number n.qos) h.qos k.qos numbers h.number k.number) in
    let retains = same_retain m.retain n.retain commands in
    (same_side a b sides, λ i. record { topic = topics i; payload = payloads i; qos = qualities i; retain = retains i })

-- words are at most one step
same_step : (a b : Step) (words : List (List ℕ)) → Writes a words → Writes b words → a ≡ b
same_step a b words h k = by_kinds a b (sym (marked a words h) ∙ marked b words k) h k
  where
    by_kinds : (a b : Step) → mark_of a ≡ mark_of b → Writes a words → Writes b words → a ≡ b
    by_kinds (Event (events.Publish s m)) (Event (events.Publish t n)) e h k =
        let same = same_publication s t m n words h k in
        λ i. Event (events.Publish (same.0 i) (same.1 i))
    by_kinds (Event (events.Deliver s m)) (Event (events.Deliver t n)) e h k =
        let same = sym h.2 ∙ k.2 in
        let sides : side_word s ≡ side_word t = cc same in
        let amounts : h.0 ≡ k.0 = cc same in
        let side = same_side s t sides in
        let amount = same_amount m n h.0 k.0 amounts h.1 k.1 in
        λ i. Event (events.Deliver (side i) (amount i))
    by_kinds (Event (events.Drop s)) (Event (events.Drop t)) e h k =
        let same = sym h ∙ k in
        let sides : side_word s ≡ side_word t = cc same in
        ap (λ (side : Side). Event (events.Drop side)) (same_side s t sides)
    by_kinds (Event events.Restart) (Event events.Restart) e h k = refl
    by_kinds (Event events.Leave) (Event events.Leave) e h k = refl
    by_kinds (Event events.Open) (Event events.Open) e h k = refl
    by_kinds (Event (events.Tick s m)) (Event (events.Tick t n)) e h k =
        let same = sym h.2 ∙ k.2 in
        let sides : side_word s ≡ side_word t = cc same in
        let numbers : h.0 ≡ k.0 = cc same in
        let side = same_side s t sides in
        let more = same_number m n h.0 k.0 numbers h.1 k.1 in
        λ i. Event (events.Tick (side i) (more i))
    by_kinds Settle Settle e h k = refl
    by_kinds Settle (Event event) e h k = absurd (event_mark event (sym e))
    by_kinds a b e h k = absurd (omega (arith, e))

-- lines are at most one list of steps
same_steps : (a b : List Step) (lines : List (List ℕ)) → AreSteps a lines → AreSteps b lines → a ≡ b
same_steps [] [] [] h k = refl
same_steps [] (t ∷ b) [] h k = absurd k
same_steps (s ∷ a) b [] h k = absurd h
same_steps [] b (line ∷ lines) h k = absurd h
same_steps (s ∷ a) [] (line ∷ lines) h k = absurd k
same_steps (s ∷ a) (t ∷ b) (line ∷ lines) h k =
    let first = same_step s t (words_of line) h.0 k.0 in
    let others = same_steps a b lines h.1 k.1 in
    λ i. first i ∷ others i

-- ---- schedules

-- the same bounds
same_bounds : (a b : Bounds) → a.most ≡ b.most → a.lenient ≡ false → b.lenient ≡ false → a ≡ b
same_bounds a b most one two =
    let lenient : a.lenient ≡ b.lenient = one ∙ sym two in
    λ i. record { most = most i; lenient = lenient i }

-- words are at most one window
same_window : (a b : Option ℕ) (words : List (List ℕ)) → IsWindow a words → IsWindow b words → a ≡ b
same_window None None words h k = refl
same_window None (Some n) words h k = let clash = sym h ∙ k.4 in absurd cc
same_window (Some n) None words h k = let clash = sym k ∙ h.4 in absurd cc
same_window (Some m) (Some n) words h k =
    let same = sym h.4 ∙ k.4 in
    let word : h.0 ≡ k.0 = cc same in
    ap (λ (x : ℕ). Some x) (same_number m n h.0 k.0 word h.1 k.1)

-- lines are at most one schedule
one_schedule : (lines : List (List ℕ)) (s t : Schedule) → IsSchedule lines s → IsSchedule lines t → SameSchedule s t
one_schedule lines s t h k =
    let same = sym h.lines_are ∙ k.lines_are in
    let firsts : h.first ≡ k.first = cc same in
    let others : h.others ≡ k.others = cc same in
    let words = sym h.world.words_are ∙ ap words_of firsts ∙ k.world.words_are in
    let most : h.world.most ≡ k.world.most = cc words in
    let room : h.world.room ≡ k.world.room = cc words in
    let last : h.world.last ≡ k.world.last = cc words in
    record {
      limits = same_bounds s.limits t.limits (same_number s.limits.most t.limits.most h.world.most k.world.most most h.world.limit_is k.world.limit_is) s.strict t.strict;
      capacity = same_number (non_zero_u16_get s.capacity) (non_zero_u16_get t.capacity) h.world.room k.world.room room h.world.capacity_is k.world.capacity_is;
      window = same_window (number_of s.window) (number_of t.window) k.world.last (subst (IsWindow (number_of s.window)) last h.world.window_is) k.world.window_is;
      steps = same_steps s.steps.items t.steps.items k.others (subst (AreSteps s.steps.items) others h.steps) k.steps;
    }

-- each line of steps is a step
step_at : (steps : List Step) (front : List (List ℕ)) (line : List ℕ) (behind : List (List ℕ)) → AreSteps steps (front ++ line ∷ behind) → (step : Step) × Writes step (words_of line)
step_at [] [] line behind h = absurd h
step_at (step ∷ steps) [] line behind h = (step, h.0)
step_at [] (other ∷ front) line behind h = absurd h
step_at (step ∷ steps) (other ∷ front) line behind h = step_at steps front line behind h.1

-- lines of a schedule begin with a world
no_world : (lines : List (List ℕ)) (s : Schedule) → IsSchedule lines s → ¬ HasNoWorld lines
no_world lines s h bad =
    let same = sym h.lines_are ∙ bad.lines_are in
    let firsts : h.first ≡ bad.first = cc same in
    bad.no_world s.limits.most (non_zero_u16_get s.capacity) (number_of s.window)
    (subst (λ (line : List ℕ). IsWorldLine s.limits.most (non_zero_u16_get s.capacity) (number_of s.window) (words_of line)) firsts h.world)

-- the others are steps
no_bad_step : (lines : List (List ℕ)) (s : Schedule) (n : ℕ) → IsSchedule lines s → ¬ HasNoStep lines n
no_bad_step lines s n h bad =
    let same = sym h.lines_are ∙ bad.lines_are ∙ ap (λ (front : List (List ℕ)). front ++ bad.line ∷ bad.others) bad.before.lines_are in
    let others : h.others ≡ bad.before.others ++ bad.line ∷ bad.others = cc same in
    let found = step_at s.steps.items bad.before.others bad.line bad.others (subst (AreSteps s.steps.items) others h.steps) in
    bad.no_step found.0 found.1

not_both : (lines : List (List ℕ)) (s : Schedule) (n : ℕ) → IsSchedule lines s → ¬ IsBadLine lines n
not_both lines s n h (inl bad) = no_world lines s h bad.1
not_both lines s n h (inr bad) = no_bad_step lines s n h bad

-- The text form of a schedule.
read_back : (s : Schedule) → InBounds s → IsSchedule (lines_of (schedule_text s)) s
read_back s bounds = schedule_back s (schedule_text s) refl (world_is s bounds.least bounds.most bounds.some bounds.few bounds.window) bounds.steps

pub laws : ScheduleLaws
laws = record { one_schedule = one_schedule; not_both = not_both; read_back = read_back }
