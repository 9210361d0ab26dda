-- The lines of events that are generated.
use Rattle.std.proofs.Common.{◌≡◌, ℕ, zero, suc, ◌+◌, ◌-◌, ◌/◌, ◌%◌, ◌<◌, ◌≤◌, Bool, true, false, ◌==◌, nat_lt, if◌then◌else◌, List, [], ◌∷◌, ◌++◌, map, flat_map, Option, refl, sym, ap, subst, ◌∙◌, append_assoc, add-one, arith}
use Rattle.std.specs.Prelude.{codes, decimal}
use Rattle.std.specs.Int.{w32, to_be_bytes}
use Rattle.std.specs.Int.NonZero.{non_zero_u16_get}
use Rattle.std.specs.declared.num.NonZeroU16.{NonZeroU16}
use Rattle.std.specs.Io.KnownBytes.{Appends}
use Rattle.std.specs.List.{All}
use Rattle.std.proofs.KnownBytes.{Appends-trans}
use Rattle.std.specs.Str.{IsAscii}
use Rattle.std.proofs.lemmas.Str.{IsUtf8-from_ascii, is_utf8-from_IsUtf8}
use Rattle.std.proofs.lemmas.List.{append-nil}
use Rattle.std.proofs.lemmas.List.Concat.{flat_map-append}
use Rattle.std.proofs.lemmas.List.Elements.{All-append, All-cons, All-nil}
use Rattle.rand_pcg.specs.Lcg.{Lcg}
use Rattle.rand_pcg.specs.Pcg.{pcg32}
use Rattle.hex.specs.Hex.{IsBytes}
use Rattle.mq_topic.specs.Topic.{IsTopicName}
use Rattle.mq_world.specs.declared.event.Event.{Event as WorldEvent}
use Rattle.mq_world.specs.declared.event.Event.TheVariants as events
use Rattle.mq_world.specs.declared.side.Side.{Side}
use Rattle.mq_world.specs.MadeUp.{made_event, made_from, made_message, made_qos, made_side, made_up}
use Rattle.mq_schedule.specs.declared.schedule.Schedule.{Schedule}
use Rattle.mq_schedule.specs.declared.schedule.Step.TheVariants.{Event, Settle}
use Rattle.mq_schedule.specs.Laws.{ScheduleLaws}
use Rattle.mq_schedule.specs.Parts.{KeepsBounds}
use Rattle.mq_schedule.specs.Schedule.{IsSchedule, lines_of, number_of}
use Rattle.mq_schedule.specs.Writing.{line_with, schedule_text, step_line, window_words}
use Rattle.mq_cli.specs.Status.{IsMadeUp, IsRandomText}

-- the lines of some events were written, and the generator makes the others
pub record Written (start count : ℕ) (g : Lcg) (n : ℕ) (old new : Option (List ℕ)) : Type 0 where
  pub made : List WorldEvent
  pub all : made ++ made_from g n (count - n) ≡ made_up start count
  pub lines : Appends old new (flat_map (λ event. step_line (Event event)) made)

-- the next event
next_made : (made : List WorldEvent) (event : WorldEvent) (old new : Lcg) (word n steps : ℕ)
    → n < steps
    → (word, new) ≡ pcg32 old
    → event ≡ made_event word n
    → (made ++ event ∷ []) ++ made_from new (n + 1) (steps - (n + 1)) ≡ made ++ made_from old n (steps - n)
unfolding made_from
next_made made event old new word n steps lt drawn is =
    let left : steps - n ≡ suc (steps - (n + 1)) = omega arith in
    let first : word ≡ (pcg32 old).0 = ap (λ (p : ℕ × Lcg). p.0) drawn in
    let second : new ≡ (pcg32 old).1 = ap (λ (p : ℕ × Lcg). p.1) drawn in
    rw (left, append_assoc, is, first, second, add-one)

pub one_written : (start count : ℕ) (g h : Lcg) (word n : ℕ) (event : WorldEvent) (old mid new : Option (List ℕ)) → Written start count g n old mid → n < count → (word, h) ≡ pcg32 g → event ≡ made_event word n
    → Appends mid new (step_line (Event event)) → Written start count h (n + 1) old new
one_written start count g h word n event old mid new w lt drawn is line =
    let f : WorldEvent → List ℕ = λ e. step_line (Event e) in
    let one : flat_map f w.made ++ f event ≡ flat_map f (w.made ++ event ∷ []) = ap (λ (t : List ℕ). flat_map f w.made ++ t) (sym (append-nil (f event))) ∙ sym (flat_map-append f w.made (event ∷ [])) in
    record {
      made = w.made ++ event ∷ [];
      all = next_made w.made event g h word n count lt drawn is ∙ w.all;
      lines = subst (Appends old new) one (Appends-trans old mid new (flat_map f w.made) (f event) w.lines line);
    }

-- No further events.
pub all_written : (start count : ℕ) (g : Lcg) (n : ℕ) (old new : Option (List ℕ)) → Written start count g n old new → count ≤ n → Appends old new (flat_map (λ event. step_line (Event event)) (made_up start count))
unfolding made_from
all_written start count g n old new w le =
    let none : count - n ≡ 0 = omega arith in
    let left : made_from g n (count - n) ≡ [] = rw none refl in
    let same : w.made ≡ made_up start count = sym (append-nil w.made) ∙ (ap (λ (t : List WorldEvent). w.made ++ t) (sym left) ∙ w.all) in
    subst (λ (made : List WorldEvent). Appends old new (flat_map (λ event. step_line (Event event)) made)) same w.lines

-- ---- bounds

payload_bytes : (n : ℕ) → IsBytes (to_be_bytes w32 n)
payload_bytes n zero = omega arith
payload_bytes n (suc zero) = omega arith
payload_bytes n (suc (suc zero)) = omega arith
payload_bytes n (suc (suc (suc zero))) = omega arith
payload_bytes n (suc (suc (suc (suc i)))) = omega arith

topic_ascii : IsAscii (116 ∷ [])
topic_ascii zero = omega arith
topic_ascii (suc i) = omega arith

topic_is_name : IsTopicName (116 ∷ [])
topic_is_name = record { text = record { utf8 = is_utf8-from_IsUtf8 (116 ∷ []) (IsUtf8-from_ascii (116 ∷ []) topic_ascii); no_nul = refl; short = omega arith }; name = refl }

-- by the tests on the kind of an event, and the one on whether a loss is that of a client that
-- leaves
kind_kept : (publishes delivers loses opens leaves : Bool) (side : Side) (value n : ℕ)
    → KeepsBounds (Event (if publishes then events.Publish side (made_message (made_qos value) n) else (if delivers then events.Deliver side (value % 32) else (if loses then (if leaves then events.Leave else events.Drop side) else (if opens then events.Open else events.Tick side (value % 1000))))))
kind_kept true delivers loses opens leaves side value n = (topic_is_name, payload_bytes n, omega arith)
kind_kept false true loses opens leaves side value n = omega arith
kind_kept false false true opens true side value n = tt
kind_kept false false true opens false side value n = tt
kind_kept false false false true leaves side value n = tt
kind_kept false false false false leaves side value n = omega arith

event_kept : (word n : ℕ) → KeepsBounds (Event (made_event word n))
event_kept word n = kind_kept (nat_lt (word % 8) 2) (nat_lt (word % 8) 5) (word % 8 == 5) (word % 8 == 6) (word / 16 % 4 == 0) (made_side word) (word / 16) n

events_kept : (g : Lcg) (n count : ℕ) → All KeepsBounds (map (λ event. Event event) (made_from g n count))
unfolding made_from
events_kept g n zero = All-nil KeepsBounds
events_kept g n (suc count) = All-cons KeepsBounds (Event (made_event (pcg32 g).0 n)) (map (λ event. Event event) (made_from (pcg32 g).1 (suc n) count)) (event_kept (pcg32 g).0 n) (events_kept (pcg32 g).1 (suc n) count)

-- ---- the whole text

-- the lines of events are those of their steps
lines_of_steps : (made : List WorldEvent) → flat_map (λ event. step_line (Event event)) made ≡ flat_map step_line (map (λ event. Event event) made)
lines_of_steps [] = refl
lines_of_steps (event ∷ made) = ap (λ (t : List ℕ). step_line (Event event) ++ t) (lines_of_steps made)

-- the world, the events, and the end
pub parts_written : (start count : ℕ) (a b c d : Option (List ℕ)) (world : List ℕ) → Appends a b world → Appends b c (flat_map (λ event. step_line (Event event)) (made_up start count)) → Appends c d (codes "settle\n")
    → Appends a d (world ++ flat_map step_line (map (λ event. Event event) (made_up start count) ++ Settle ∷ []))
parts_written start count a b c d world h k l =
    let steps = map (λ event. Event event) (made_up start count) in
    let ends : flat_map (λ event. step_line (Event event)) (made_up start count) ++ codes "settle\n" ≡ flat_map step_line (steps ++ Settle ∷ []) =
    ap (λ (t : List ℕ). t ++ codes "settle\n") (lines_of_steps (made_up start count)) ∙ sym (flat_map-append step_line steps (Settle ∷ [])) in
    subst (λ (t : List ℕ). Appends a d (world ++ t)) ends (Appends-trans a b d world _ h (Appends-trans b c d _ (codes "settle\n") k l))

pub random_text : (laws : ScheduleLaws) (start count : ℕ) (text : List ℕ) → text ≡ line_with (codes "world" ∷ decimal 65536 ∷ decimal 4 ∷ []) ++ flat_map step_line (map (λ event. Event event) (made_up start count) ++ Settle ∷ []) → IsRandomText start count text
random_text laws start count text e = record { lines = e; written = written; reads = reads }
  where
    same : (schedule : Schedule) → IsMadeUp start count schedule → schedule_text schedule ≡ line_with (codes "world" ∷ decimal 65536 ∷ decimal 4 ∷ []) ++ flat_map step_line (map (λ event. Event event) (made_up start count) ++ Settle ∷ [])
    same schedule made =
        ap (λ (w : Option NonZeroU16). line_with (codes "world" ∷ decimal schedule.limits.most ∷ decimal (non_zero_u16_get schedule.capacity) ∷ window_words (number_of w)) ++ flat_map step_line schedule.steps.items) made.window
        ∙ rw (made.limit, made.capacity, made.all) refl

    written : (schedule : Schedule) → IsMadeUp start count schedule → text ≡ schedule_text schedule
    written schedule made = e ∙ sym (same schedule made)

    kept : All KeepsBounds (map (λ event. Event event) (made_up start count) ++ Settle ∷ [])
    kept = All-append KeepsBounds (map (λ event. Event event) (made_up start count)) (Settle ∷ []) (events_kept _ 0 count) (All-cons KeepsBounds Settle [] tt (All-nil KeepsBounds))

    reads : (schedule : Schedule) → IsMadeUp start count schedule → IsSchedule (lines_of text) schedule
    reads schedule made = rw (written schedule made) (laws.read_back schedule (record {
      least = rw made.limit (omega arith);
      most = rw made.limit (omega arith);
      some = rw made.capacity (omega arith);
      few = rw made.capacity (omega arith);
      window = rw made.window tt;
      steps = rw made.all kept;
    }))
