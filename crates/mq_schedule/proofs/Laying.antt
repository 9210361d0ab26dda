-- Lines that are written as words, and read back.
use Rattle.std.proofs.Common.{◌≡◌, ℕ, suc, ◌+◌, ◌/◌, ◌%◌, ◌^◌, ◌≤◌, ◌<◌, Bool, true, false, ◌==◌, nat_lt, Option, Some, None, List, [], ◌∷◌, ◌++◌, length, map, take, get_or, flat_map, refl, sym, ap, subst, inl, ◌∙◌, append_assoc, arith, lit<}
use Rattle.std.specs.Prelude.{⊤, decimal}
use Rattle.std.specs.Fmt.{digit_glyph}
use Rattle.std.specs.List.{All, AllZip, join_with_byte, list_all, slice_split}
use Rattle.std.specs.Int.NonZero.{non_zero_u16_get}
use Rattle.std.specs.Io.BufRead.{strip_last}
use Rattle.std.proofs.lemmas.Bool.Decides.{nat_tests}
use Rattle.std.proofs.lemmas.Fmt.{decimal_is_IsNumeral}
use Rattle.std.proofs.lemmas.List.{append-nil, flat_map_more, get_or_default, take_more}
use Rattle.std.proofs.lemmas.List.Elements.{All-append, All-cons, All-nil}
use Rattle.std.proofs.lemmas.List.Folds.{list_all-append}
use Rattle.std.proofs.lemmas.List.Sums.{AllPass-from_list_all, list_all-from_AllPass}
use Rattle.std.proofs.lemmas.List.Splits.{slice_split_at, slice_split_none}
use Rattle.std.proofs.lemmas.Str.Parse.{digit_at}
use Rattle.hex.specs.Hex.{IsBytes}
use Rattle.mq_topic.specs.declared.qos.Qos.{Qos}
use Rattle.mq_topic.specs.declared.qos.Qos.TheVariants.{Q0, Q1, Q2}
use Rattle.mq_topic.specs.Qos.{qos_number}
use Rattle.mq_world.specs.declared.side.Side.{Side}
use Rattle.mq_world.specs.declared.side.Side.TheVariants.{Client, Server}
use Rattle.mq_world.specs.declared.event.Event.TheVariants as events
use Rattle.mq_packet.specs.Lines.{byte_digits, escaped_byte}
use Rattle.mq_schedule.specs.declared.schedule.Step.{Step}
use Rattle.mq_schedule.specs.declared.schedule.Step.TheVariants.{Event, Settle}
use Rattle.mq_schedule.specs.declared.schedule.Schedule.{Schedule}
use Rattle.mq_schedule.specs.Schedule.{IsNumber, IsSchedule, IsWindow, IsWorldLine, Writes, bytes_word, lines_of, number_of, publish_word, side_word, words_of}
use Rattle.mq_schedule.specs.Parts.{KeepsBounds, is_plain}
use Rattle.mq_schedule.specs.Writing.{line_with, schedule_text, step_line, step_words, window_words, world_words}
use Rattle.mq_schedule.specs.Laws.{KeepsWindow}
use Rattle.mq_schedule.proofs.Codes.{escaped_other, escaped_plain, two_digits}
use Rattle.mq_schedule.proofs.Cuts.{strip_feed}
use Rattle.mq_schedule.proofs.Octets.{name_bytes}

-- ---- texts that are parted by a byte

-- A byte does not occur in a text.
abbrev Lacks : ℕ → List ℕ → Type 0
Lacks c text = All (λ b. (b == c) ≡ false) text

abbrev AllLack : ℕ → List (List ℕ) → Type 0
AllLack c [] = ⊤
AllLack c (text ∷ texts) = Lacks c text × AllLack c texts

-- Texts joined by a byte that occurs in none of them are its parts.
parted : (c : ℕ) (text : List ℕ) (texts : List (List ℕ)) → AllLack c (text ∷ texts) → slice_split (λ b. b == c) (join_with_byte c (text ∷ texts)) ≡ text ∷ texts
parted c text [] h = slice_split_none (λ b. b == c) text h.0
parted c text (next ∷ texts) h =
    let yes : (c == c) ≡ true = grind (arith, nat_tests) in
    slice_split_at (λ b. b == c) text c (join_with_byte c (next ∷ texts)) h.0 yes ∙ ap (λ (rest : List (List ℕ)). text ∷ rest) (parted c next texts h.1)

-- ---- words

-- a byte is behind the space, and behind the line feed
abbrev is_behind : ℕ → Bool
is_behind b = nat_lt 32 b

-- each byte of a word is
abbrev Solid : List ℕ → Type 0
Solid word = list_all is_behind word ≡ true

abbrev AllSolid : List (List ℕ) → Type 0
AllSolid [] = ⊤
AllSolid (word ∷ words) = Solid word × AllSolid words

solid_lacks : (c : ℕ) (word : List ℕ) → c ≤ 32 → Solid word → Lacks c word
solid_lacks c word low h = λ k d lt. let behind = AllPass-from_list_all is_behind word h k d lt in grind (arith, nat_tests)

all_lack_space : (words : List (List ℕ)) → AllSolid words → AllLack 32 words
all_lack_space [] h = tt
all_lack_space (word ∷ words) h = (solid_lacks 32 word (omega arith) h.0, all_lack_space words h.1)

-- a line is its words
line_words : (word : List ℕ) (words : List (List ℕ)) → AllSolid (word ∷ words) → words_of (join_with_byte 32 (word ∷ words)) ≡ word ∷ words
line_words word words h = parted 32 word words (all_lack_space (word ∷ words) h)

-- It contains no line feed.
lacks_feed : (words : List (List ℕ)) → AllSolid words → Lacks 10 (join_with_byte 32 words)
lacks_feed [] h = All-nil (λ b. (b == 10) ≡ false)
lacks_feed (word ∷ []) h = solid_lacks 10 word (omega arith) h.0
lacks_feed (word ∷ next ∷ words) h =
    All-append (λ b. (b == 10) ≡ false) word (32 ∷ join_with_byte 32 (next ∷ words)) (solid_lacks 10 word (omega arith) h.0)
    (All-cons (λ b. (b == 10) ≡ false) 32 (join_with_byte 32 (next ∷ words)) refl (lacks_feed (next ∷ words) h.1))

-- And it ends with one.
line_end : (words : List (List ℕ)) → line_with words ≡ join_with_byte 32 words ++ 10 ∷ []
line_end [] = refl
line_end (word ∷ []) = refl
line_end (word ∷ next ∷ words) =
    ap (λ (rest : List ℕ). word ++ 32 ∷ rest) (line_end (next ∷ words)) ∙ sym (append_assoc word (32 ∷ join_with_byte 32 (next ∷ words)) (10 ∷ []))

-- ---- the words of values

-- a number in decimal
number : (n : ℕ) → n < 2 ^ 64 → IsNumber n (decimal n)
number n small = let h = decimal_is_IsNumeral n small in record { digits = h.0; value = h.1; bound = small }

solid_number : (n : ℕ) → n < 2 ^ 64 → Solid (decimal n)
solid_number n small = list_all-from_AllPass is_behind (decimal n) (λ k d lt.
    let digit = digit_at (decimal n) k (decimal_is_IsNumeral n small).0.1 lt in
    let same = get_or_default (decimal n) k d 0 lt in
    let behind : 32 < get_or (decimal n) k d = omega (arith, digit.0, same) in
    grind (arith, nat_tests))

solid_qos : (qos : Qos) → Solid (decimal (qos_number qos))
solid_qos Q0 = solid_number 0 (lit< tt)
solid_qos Q1 = solid_number 1 (lit< tt)
solid_qos Q2 = solid_number 2 (lit< tt)

qos_small : (qos : Qos) → qos_number qos < 2 ^ 64
qos_small Q0 = lit< tt
qos_small Q1 = lit< tt
qos_small Q2 = lit< tt

solid_side : (side : Side) → Solid (side_word side)
solid_side Client = refl
solid_side Server = refl

solid_publish : (retain : Bool) → Solid (publish_word retain)
solid_publish false = refl
solid_publish true = refl

-- a digit
behind_glyph : (d : ℕ) → is_behind (digit_glyph false d) ≡ true
behind_glyph d = by_kind (nat_lt d 10) refl
  where
    by_kind : (b : Bool) → nat_lt d 10 ≡ b → is_behind (digit_glyph false d) ≡ true
    by_kind true h = rw h (grind (arith, nat_tests))
    by_kind false h = rw h (grind (arith, nat_tests))

-- one byte in front
solid_cons : (b : ℕ) (word : List ℕ) → is_behind b ≡ true → Solid word → Solid (b ∷ word)
solid_cons b word h k = rw (h, k) refl

-- two digits
solid_digits : (b : ℕ) → b < 256 → Solid (byte_digits b)
solid_digits b lt = subst Solid (sym (two_digits b lt)) (solid_cons (digit_glyph false (b / 16)) (digit_glyph false (b % 16) ∷ []) (behind_glyph (b / 16)) (solid_cons (digit_glyph false (b % 16)) [] (behind_glyph (b % 16)) refl))

-- a byte of a text as it is printed
solid_escape : (b : ℕ) → b < 256 → Solid (escaped_byte b)
solid_escape b lt = by_kind (is_plain b) refl
  where
    by_kind : (p : Bool) → is_plain b ≡ p → Solid (escaped_byte b)
    by_kind true h = let behind : is_behind b ≡ true = grind (arith, nat_tests) in subst Solid (sym (escaped_plain b h)) (solid_cons b [] behind refl)
    by_kind false h = subst Solid (sym (escaped_other b h)) (solid_cons 37 (byte_digits b) refl (solid_digits b lt))

solid_codes : (f : ℕ → List ℕ) → ((b : ℕ) → b < 256 → Solid (f b)) → (bytes : List ℕ) → IsBytes bytes → Solid (flat_map f bytes)
solid_codes f one [] h = refl
solid_codes f one (b ∷ bytes) h = list_all-append is_behind (f b) (flat_map f bytes) ∙ rw (one b (h 0), solid_codes f one bytes (λ i. h (suc i))) refl

solid_bytes : (bytes : List ℕ) → IsBytes bytes → Solid (bytes_word bytes)
solid_bytes [] h = refl
solid_bytes (b ∷ bytes) h = solid_codes byte_digits solid_digits (b ∷ bytes) h

-- ---- the words of steps

-- They are the words of the step.
step_writes : (step : Step) → KeepsBounds step → Writes step (step_words step)
step_writes (Event (events.Publish side m)) h = record {
  qos = decimal (qos_number m.qos);
  number = number (qos_number m.qos) (qos_small m.qos);
  topic = h.0;
  payload = h.1;
  size = h.2;
  words_are = refl;
}
step_writes (Event (events.Deliver side n)) h = (decimal n, inl (number n h), refl)
step_writes (Event (events.Drop side)) h = refl
step_writes (Event events.Restart) h = refl
step_writes (Event events.Leave) h = refl
step_writes (Event events.Open) h = refl
step_writes (Event (events.Tick side n)) h = (decimal n, number n h, refl)
step_writes Settle h = refl

step_solid : (step : Step) → KeepsBounds step → AllSolid (step_words step)
step_solid (Event (events.Publish side m)) h =
    (solid_publish m.retain, (solid_side side, (solid_qos m.qos, (solid_codes escaped_byte solid_escape m.topic (name_bytes m.topic h.0), (solid_bytes m.payload h.1, tt)))))
step_solid (Event (events.Deliver side n)) h = (refl, (solid_side side, (solid_number n h, tt)))
step_solid (Event (events.Drop side)) h = (refl, (solid_side side, tt))
step_solid (Event events.Restart) h = (refl, tt)
step_solid (Event events.Leave) h = (refl, tt)
step_solid (Event events.Open) h = (refl, tt)
step_solid (Event (events.Tick side n)) h = (refl, (solid_side side, (solid_number n h, tt)))
step_solid Settle h = (refl, tt)

-- the line of a step, without its end
abbrev bare_line : Step → List ℕ
bare_line step = join_with_byte 32 (step_words step)

step_back : (step : Step) → KeepsBounds step → words_of (bare_line step) ≡ step_words step
step_back (Event (events.Publish side m)) h = line_words _ _ (step_solid (Event (events.Publish side m)) h)
step_back (Event (events.Deliver side n)) h = line_words _ _ (step_solid (Event (events.Deliver side n)) h)
step_back (Event (events.Drop side)) h = line_words _ _ (step_solid (Event (events.Drop side)) h)
step_back (Event events.Restart) h = line_words _ _ (step_solid (Event events.Restart) h)
step_back (Event events.Leave) h = line_words _ _ (step_solid (Event events.Leave) h)
step_back (Event events.Open) h = line_words _ _ (step_solid (Event events.Open) h)
step_back (Event (events.Tick side n)) h = line_words _ _ (step_solid (Event (events.Tick side n)) h)
step_back Settle h = line_words _ _ (step_solid Settle h)

-- the lines of steps are read as the steps
steps_back : (steps : List Step) → All KeepsBounds steps → AllZip (λ step line. Writes step (words_of line)) steps (map bare_line steps)
steps_back [] h = tt
steps_back (step ∷ steps) h =
    let bounds = h 0 step (omega arith) in
    (subst (Writes step) (sym (step_back step bounds)) (step_writes step bounds), steps_back steps (λ k d lt. h (suc k) d (omega (arith, lt))))

-- and none has a line feed
steps_lack : (steps : List Step) → All KeepsBounds steps → AllLack 10 (map bare_line steps)
steps_lack [] h = tt
steps_lack (step ∷ steps) h = (lacks_feed (step_words step) (step_solid step (h 0 step (omega arith))), steps_lack steps (λ k d lt. h (suc k) d (omega (arith, lt))))

-- ---- schedules

-- the words of a world
window_is : (n : Option ℕ) → KeepsWindow n → IsWindow n (window_words n)
window_is None bounds = refl
window_is (Some n) bounds = (decimal n, number n (omega (arith, bounds.1)), bounds.0, omega (arith, bounds.1), refl)

pub world_is : (s : Schedule) → (64 ≤ s.limits.most) → s.limits.most < 2 ^ 28 → (1 ≤ non_zero_u16_get s.capacity) → non_zero_u16_get s.capacity < 2 ^ 16 → KeepsWindow (number_of s.window)
    → IsWorldLine s.limits.most (non_zero_u16_get s.capacity) (number_of s.window) (world_words s)
world_is s least most one room window = record {
  most = decimal s.limits.most;
  room = decimal (non_zero_u16_get s.capacity);
  last = window_words (number_of s.window);
  limit_is = number s.limits.most (omega (arith, most));
  capacity_is = number (non_zero_u16_get s.capacity) (omega (arith, room));
  least_limit = least;
  most_limit = omega (arith, most);
  least_capacity = one;
  most_capacity = omega (arith, room);
  window_is = window_is (number_of s.window) window;
  words_are = refl;
}

window_solid : (n : Option ℕ) (words : List (List ℕ)) → IsWindow n words → AllSolid (window_words n)
window_solid None words h = tt
window_solid (Some n) words h = (solid_number n h.1.bound, tt)

world_solid : (s : Schedule) → IsWorldLine s.limits.most (non_zero_u16_get s.capacity) (number_of s.window) (world_words s) → AllSolid (world_words s)
world_solid s h = (refl, (solid_number s.limits.most h.limit_is.bound, (solid_number (non_zero_u16_get s.capacity) h.capacity_is.bound, window_solid (number_of s.window) h.last h.window_is)))

-- lines, each with its end, are lines that line feeds join, and one at the end
joined : (words : List (List ℕ)) (steps : List Step) → line_with words ++ flat_map step_line steps ≡ join_with_byte 10 (join_with_byte 32 words ∷ map bare_line steps) ++ 10 ∷ []
joined words [] = append-nil (line_with words) ∙ line_end words
joined words (step ∷ steps) =
    let line = join_with_byte 32 words in
    let others = join_with_byte 10 (bare_line step ∷ map bare_line steps) in
    (λ i. line_end words i ++ joined (step_words step) steps i) ∙ append_assoc line (10 ∷ []) (others ++ 10 ∷ []) ∙ sym (append_assoc line (10 ∷ others) (10 ∷ []))

-- the line of one step more
pub line_more : (words : List (List ℕ)) (steps : List Step) (k : ℕ) (step : Step) (old new : List ℕ) → k < length steps → step ≡ get_or steps k step → old ≡ line_with words ++ flat_map step_line (take k steps)
    → new ≡ old ++ step_line step → new ≡ line_with words ++ flat_map step_line (take (k + 1) steps)
line_more words steps k step old new below at before e =
    let more : take k steps ++ step ∷ [] ≡ take (k + 1) steps = ap (λ (s : Step). take k steps ++ s ∷ []) at ∙ sym (take_more steps k step below) in
    e ∙ ap (λ (t : List ℕ). t ++ step_line step) before ∙ flat_map_more step_line (line_with words) (take k steps) step ∙ ap (λ (ss : List Step). line_with words ++ flat_map step_line ss) more

-- The output is read as the schedule.
pub schedule_back : (s : Schedule) (text : List ℕ) → text ≡ schedule_text s → IsWorldLine s.limits.most (non_zero_u16_get s.capacity) (number_of s.window) (world_words s) → All KeepsBounds s.steps.items → IsSchedule (lines_of text) s
schedule_back s text e world bounds =
    let first = join_with_byte 32 (world_words s) in
    let others = map bare_line s.steps.items in
    let solid = world_solid s world in
    let stripped : strip_last 10 text ≡ join_with_byte 10 (first ∷ others) = ap (strip_last 10) (e ∙ joined (world_words s) s.steps.items) ∙ strip_feed (join_with_byte 10 (first ∷ others)) in
    record {
      first = first;
      others = others;
      lines_are = ap (slice_split (λ b. b == 10)) stripped ∙ parted 10 first others (lacks_feed (world_words s) solid, steps_lack s.steps.items bounds);
      world = subst (IsWorldLine s.limits.most (non_zero_u16_get s.capacity) (number_of s.window)) (sym (line_words _ _ solid)) world;
      steps = steps_back s.steps.items bounds;
    }
