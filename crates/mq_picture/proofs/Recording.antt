-- The steps that were made, and their record.
use Rattle.std.proofs.Common.{◌≡◌, ℕ, ◌+◌, ◌<◌, List, [], ◌∷◌, ◌++◌, length, take, get_or, refl, sym, ap, subst, ◌∙◌}
use Rattle.std.proofs.lemmas.List.{flat_map_more, take_more}
use Rattle.std.specs.List.{flat_map}
use Rattle.std.specs.Int.NonZero.{non_zero_u16_get}
use Rattle.mq_decode.specs.Limits.{Bounds}
use Rattle.mq_world.specs.declared.answer.Answer.{Answer}
use Rattle.mq_world.specs.Carries.{Wired}
use Rattle.mq_world.specs.World.{IsNew}
use Rattle.mq_schedule.specs.declared.schedule.Step.{Step}
use Rattle.mq_schedule.specs.declared.schedule.Schedule.{Schedule}
use Rattle.mq_schedule.specs.Schedule.{number_of}
use Rattle.mq_replay.specs.Replay.{StepDoes, StepsLead}
use Rattle.mq_replay.proofs.Leading.{steps_more}
use Rattle.mq_picture.specs.declared.entry.RecordEntry.{RecordEntry}
use Rattle.mq_picture.specs.declared.record.Recorder.{Recorder}
use Rattle.mq_picture.specs.Inside.Recording.{Records}
use Rattle.mq_picture.specs.Records.{IsRecord, answer_entries, unsent}

-- the entries of the next item of a list
pub records_next : {X : Type 0} (f : X → List RecordEntry) (xs : List X) (k : ℕ) (x : X) (r s t : Recorder) → k < length xs → x ≡ get_or xs k x
    → Records r s (flat_map f (take k xs)) → Records s t (f x) → Records r t (flat_map f (take (k + 1) xs))
records_next f xs k x r s t below at before next =
    let more : take k xs ++ x ∷ [] ≡ take (k + 1) xs = ap (λ z. take k xs ++ z ∷ []) at ∙ sym (take_more xs k x below) in
    next ∙ ap (λ z. z ++ f x) before ∙ flat_map_more f (unsent r.entries.items) (take k xs) x ∙ ap (λ z. unsent r.entries.items ++ flat_map f z) more

-- Steps lead from one world to another, and the entries of each were recorded.
pub record IsMade (limit : Bounds) (capacity : ℕ) (steps : List Step) (start end : Wired) (history : List RecordEntry) : Type 0 where
  pub answers : List Answer
  pub leads : StepsLead limit capacity steps answers start end
  pub recorded : unsent history ≡ flat_map answer_entries answers

-- no step yet
pub none_made : (limit : Bounds) (capacity : ℕ) (start : Wired) (history : List RecordEntry) → history ≡ [] → IsMade limit capacity [] start start history
none_made limit capacity start history none = record { answers = []; leads = refl; recorded = ap unsent none }

-- the next of all steps
pub next_made : (limit : Bounds) (capacity : ℕ) (steps : List Step) (k : ℕ) (s : Step) (a : Answer) (u v w : Wired) (old new : Recorder) → k < length steps → s ≡ get_or steps k s
    → IsMade limit capacity (take k steps) u v old.entries.items → StepDoes limit capacity s a v w → Records old new (answer_entries a)
    → IsMade limit capacity (take (k + 1) steps) u w new.entries.items
next_made limit capacity steps k s a u v w old new below at h does records =
    let more : take k steps ++ s ∷ [] ≡ take (k + 1) steps = sym (take_more steps k s below ∙ ap (λ (t : Step). take k steps ++ t ∷ []) (sym at)) in
    record {
      answers = h.answers ++ a ∷ [];
      leads = subst (λ (ss : List Step). StepsLead limit capacity ss (h.answers ++ a ∷ []) u w) more (steps_more limit capacity (take k steps) h.answers s a u v w h.leads does);
      recorded = records ∙ ap (λ z. z ++ answer_entries a) h.recorded ∙ flat_map_more answer_entries [] h.answers a;
    }

-- all steps were made
pub all_made : (s : Schedule) (start end : Wired) (history : List RecordEntry) → IsNew s.limits (non_zero_u16_get s.capacity) (number_of s.window) start
    → IsMade s.limits (non_zero_u16_get s.capacity) s.steps.items start end history → IsRecord s history
all_made s start end history begins h = record { answers = h.answers; end = end; comes = record { start = start; new = begins; leads = h.leads }; entries = h.recorded }
