-- The steps that were made, and their output.
use Rattle.std.proofs.Common.{◌≡◌, ℕ, ◌+◌, ◌<◌, List, [], ◌∷◌, ◌++◌, Option, length, take, drop, get_or, refl, sym, ap, subst, ◌∙◌, take-append-drop}
use Rattle.std.proofs.lemmas.List.{flat_map_more, take_more}
use Rattle.std.proofs.KnownBytes.{Appends-nil, Appends-trans}
use Rattle.std.specs.List.{flat_map}
use Rattle.std.specs.Int.NonZero.{non_zero_u16_get}
use Rattle.std.specs.Io.KnownBytes.{Appends}
use Rattle.mq_packet.specs.Lines.{Prints}
use Rattle.mq_decode.specs.Limits.{Bounds}
use Rattle.mq_world.specs.declared.answer.Answer.{Answer}
use Rattle.mq_world.specs.Carries.{Wired}
use Rattle.mq_world.specs.World.{IsNew}
use Rattle.mq_schedule.specs.declared.schedule.Step.{Step}
use Rattle.mq_schedule.specs.declared.schedule.Schedule.{Schedule}
use Rattle.mq_schedule.specs.Schedule.{number_of}
use Rattle.mq_replay.specs.declared.run.ReplayFault.{ReplayFault}
use Rattle.mq_replay.specs.declared.run.ReplayFault.TheVariants.{Io, Memory}
use Rattle.mq_replay.specs.Fault.{OnMemory}
use Rattle.mq_replay.specs.Printing.{answer_lines}
use Rattle.mq_replay.specs.Replay.{IsCutReplay, IsReplay, StepDoes, StepsLead, last_lines}

-- a step more at the end
pub steps_more : (limit : Bounds) (capacity : ℕ) (steps : List Step) (answers : List Answer) (s : Step) (a : Answer) (u v w : Wired) → StepsLead limit capacity steps answers u v → StepDoes limit capacity s a v w
    → StepsLead limit capacity (steps ++ s ∷ []) (answers ++ a ∷ []) u w
steps_more limit capacity [] [] s a u v w h does = (w, subst (λ (x : Wired). StepDoes limit capacity s a x w) h does, refl)
steps_more limit capacity (t ∷ steps) (b ∷ answers) s a u v w h does = (h.0, h.1, steps_more limit capacity steps answers s a h.0 v w h.2 does)
steps_more limit capacity [] (b ∷ answers) s a u v w h does = absurd h
steps_more limit capacity (t ∷ steps) [] s a u v w h does = absurd h

-- Steps lead from one world to another, and the result of each was printed.
pub record IsMade (limit : Bounds) (capacity : ℕ) (steps : List Step) (start end : Wired) (old new : Option (List ℕ)) : Type 0 where
  pub answers : List Answer
  pub leads : StepsLead limit capacity steps answers start end
  pub printed : Appends old new (flat_map answer_lines answers)

-- no step yet
pub none_made : (limit : Bounds) (capacity : ℕ) (start : Wired) (text : Option (List ℕ)) → IsMade limit capacity [] start start text text
none_made limit capacity start text = record { answers = []; leads = refl; printed = Appends-nil text }

-- a step more
pub one_made : (limit : Bounds) (capacity : ℕ) (steps : List Step) (s : Step) (a : Answer) (u v w : Wired) (old mid new : Option (List ℕ)) → IsMade limit capacity steps u v old mid → StepDoes limit capacity s a v w
    → Appends mid new (answer_lines a) → IsMade limit capacity (steps ++ s ∷ []) u w old new
one_made limit capacity steps s a u v w old mid new h does prints = record {
  answers = h.answers ++ a ∷ [];
  leads = steps_more limit capacity steps h.answers s a u v w h.leads does;
  printed = subst (Appends old new) (flat_map_more answer_lines [] h.answers a) (Appends-trans old mid new (flat_map answer_lines h.answers) (answer_lines a) h.printed prints);
}

-- the next of all steps
pub next_made : (limit : Bounds) (capacity : ℕ) (steps : List Step) (k : ℕ) (s : Step) (a : Answer) (u v w : Wired) (old mid new : Option (List ℕ)) → k < length steps → s ≡ get_or steps k s
    → IsMade limit capacity (take k steps) u v old mid → StepDoes limit capacity s a v w → Appends mid new (answer_lines a) → IsMade limit capacity (take (k + 1) steps) u w old new
next_made limit capacity steps k s a u v w old mid new below at h does prints =
    let more : take k steps ++ s ∷ [] ≡ take (k + 1) steps = sym (take_more steps k s below ∙ ap (λ (t : Step). take k steps ++ t ∷ []) (sym at)) in
    subst (λ (ss : List Step). IsMade limit capacity ss u w old new) more (one_made limit capacity (take k steps) s a u v w old mid new h does prints)

-- all steps were made, and then the last lines were printed
pub all_made : (s : Schedule) (start end : Wired) (old mid new : Option (List ℕ)) → IsNew s.limits (non_zero_u16_get s.capacity) (number_of s.window) start → IsMade s.limits (non_zero_u16_get s.capacity) s.steps.items start end old mid
    → Appends mid new (last_lines end) → Prints old new (IsReplay s)
all_made s start end old mid new begins h prints = (
  flat_map answer_lines h.answers ++ last_lines end,
  Appends-trans old mid new (flat_map answer_lines h.answers) (last_lines end) h.printed prints,
  record { answers = h.answers; end = end; comes = record { start = start; new = begins; leads = h.leads }; text_is = refl },
)

-- Only the first steps were made.
pub first_made : (s : Schedule) (k : ℕ) (start end : Wired) (old new : Option (List ℕ)) → IsNew s.limits (non_zero_u16_get s.capacity) (number_of s.window) start → IsMade s.limits (non_zero_u16_get s.capacity) (take k s.steps.items) start end old new
    → Prints old new (IsCutReplay s)
first_made s k start end old new begins h = (
  flat_map answer_lines h.answers,
  h.printed,
  record {
    done = take k s.steps.items;
    left = drop k s.steps.items;
    steps = sym (take-append-drop k s.steps.items);
    answers = h.answers;
    end = end;
    comes = record { start = start; new = begins; leads = h.leads };
    text_is = refl;
  },
)

-- If an allocation failed, the results of the first steps are printed.
pub cut_made : {W : Type 0} (contents : W → Option (List ℕ)) (s : Schedule) (k : ℕ) (start end : Wired) (old mid new : W) (fault : ReplayFault) → IsNew s.limits (non_zero_u16_get s.capacity) (number_of s.window) start
    → IsMade s.limits (non_zero_u16_get s.capacity) (take k s.steps.items) start end (contents old) (contents mid) → OnMemory fault (new ≡ mid) → OnMemory fault (Prints (contents old) (contents new) (IsCutReplay s))
cut_made contents s k start end old mid new (Io error) begins h same = tt
cut_made {W} contents s k start end old mid new Memory begins h same =
    let made = subst (λ (x : W). IsMade s.limits (non_zero_u16_get s.capacity) (take k s.steps.items) start end (contents old) (contents x)) (sym same) h in
    first_made s k start end (contents old) (contents new) begins made
