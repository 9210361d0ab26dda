-- Lines that are read as steps.
use Rattle.std.proofs.Common.{◌≡◌, ℕ, false, suc, ◌+◌, ◌<◌, List, [], ◌∷◌, ◌++◌, length, take, drop, get_or, map, Option, None, Result, Ok, Err, Bor, Vec, refl, sym, ap, ◌∙◌, inr, arith}
use Rattle.std.specs.Prelude.{IsErrAnd, IsErrOf}
use Rattle.std.specs.Option.{ok_or}
use Rattle.std.specs.declared.alloc.Global.{Global}
use Rattle.std.specs.Int.NonZero.{non_zero_u16_get}
use Rattle.std.specs.declared.num.NonZeroU16.{NonZeroU16}
use Rattle.std.proofs.Math.Seq.{split_at}
use Rattle.std.proofs.lemmas.List.{map-append}
use Rattle.mq_decode.specs.Limits.{Bounds}
use Rattle.mq_schedule.specs.Schedule.{IsBadLine, IsWorldLine, Writes, number_of, words_of}
use Rattle.mq_schedule.specs.Parts.{AreSteps, StopsAt}
use Rattle.mq_schedule.specs.declared.read.ScheduleFault.{ScheduleFault}
use Rattle.mq_schedule.specs.declared.read.ScheduleFault.TheVariants.{Line}
use Rattle.mq_schedule.specs.declared.schedule.Step.{Step}

-- the fault that a function returns is the one that it was given
pub fault_is : {A : Type 0} (r : Result A ScheduleFault) (fault : ScheduleFault) (n : ℕ) → IsErrAnd r (λ e. e ≡ fault) → IsErrOf r (Line n) → fault ≡ Line n
fault_is (Ok x) fault n h e = absurd h
fault_is (Err f) fault n h e = let same : f ≡ Line n = cc e in sym h ∙ same

-- the number that the fault of a line has
pub number_is : (o : Option Step) (number n : ℕ) (fault : ScheduleFault) → o ≡ None → Err fault ≡ ok_or {E = ScheduleFault} o (Line number) → fault ≡ Line n → n ≡ number
number_is o number n fault none told e = let same = rw none at told in cc (same, e)

-- one line more, and its step
one_more : (steps : List Step) (lines : List (List ℕ)) (step : Step) (line : List ℕ) → AreSteps steps lines → Writes step (words_of line) → AreSteps (steps ++ step ∷ []) (lines ++ line ∷ [])
one_more [] [] step line h k = (k, tt)
one_more [] (l ∷ lines) step line h k = absurd h
one_more (s ∷ steps) [] step line h k = absurd h
one_more (s ∷ steps) (l ∷ lines) step line h k = (h.0, one_more steps lines step line h.1 k)

pub step_more : (steps after : List Step) (yielded : List (Bor (List ℕ))) (step : Step) (line : Bor (List ℕ)) → AreSteps steps (map (λ l. l.now) yielded) → Writes step (words_of line.now) → after ≡ steps ++ step ∷ []
    → AreSteps after (map (λ l. l.now) (yielded ++ line ∷ []))
step_more steps after yielded step line h k e =
    rw (e, map-append (λ (l : Bor (List ℕ)). l.now) yielded (line ∷ [])) (one_more steps (map (λ l. l.now) yielded) step line.now h k)

-- as many steps as lines
same_length : (steps : List Step) (lines : List (List ℕ)) → AreSteps steps lines → length steps ≡ length lines
same_length [] [] h = refl
same_length [] (l ∷ lines) h = absurd h
same_length (s ∷ steps) [] h = absurd h
same_length (s ∷ steps) (l ∷ lines) h = ap suc (same_length steps lines h.1)

-- the first line that is no step
pub stops : (all : List (List ℕ)) (steps : Vec Step Global) (yielded : List (Bor (List ℕ))) (line : List ℕ) (count n : ℕ) → AreSteps steps.items (map (λ l. l.now) yielded)
    → map (λ l. l.now) yielded ≡ take (length yielded) all → (length yielded < length all) × (line ≡ get_or all (length yielded) line) → count ≡ steps.len → n ≡ count + 2
    → ((step : Step) → ¬ Writes step (words_of line)) → StopsAt all n
stops all steps yielded line count n read front here size number none = record {
  steps = steps;
  front = map (λ l. l.now) yielded;
  line = line;
  others = drop (suc (length yielded)) all;
  lines_are = split_at all (length yielded) line here.0 ∙ (λ i. sym front i ++ sym here.1 i ∷ drop (suc (length yielded)) all);
  place = omega (arith, number, size, steps.ok.0, same_length steps.items (map (λ l. l.now) yielded) read);
  before = read;
  no_step = none;
}

-- the same behind the line for a world
pub stops_after : (all others : List (List ℕ)) (first : List ℕ) (limits : Bounds) (capacity : NonZeroU16) (window : Option NonZeroU16) (n : ℕ) → all ≡ first ∷ others → limits.lenient ≡ false → IsWorldLine limits.most (non_zero_u16_get capacity) (number_of window) (words_of first) → StopsAt others n → IsBadLine all n
stops_after all others first limits capacity window n e strict world stop = inr (record {
  schedule = record { limits = limits; capacity = capacity; window = window; steps = stop.steps; strict = strict };
  front = first ∷ stop.front;
  line = stop.line;
  others = stop.others;
  lines_are = e ∙ ap (λ (lines : List (List ℕ)). first ∷ lines) stop.lines_are;
  place = omega (arith, stop.place);
  before = record { first = first; others = stop.front; lines_are = refl; world = world; steps = stop.before };
  no_step = stop.no_step;
})
