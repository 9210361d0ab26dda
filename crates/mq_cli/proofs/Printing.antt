-- The output appended to that of a writer.
use Rattle.std.proofs.Common.{◌≡◌, ℕ, Bool, List, ◌++◌, Option, Some, None, Result, Ok, Err, refl, sym, ap, subst, ◌∙◌, append_assoc, inl, inr}
use Rattle.std.specs.Prelude.{IfOk, IfSome, IsUtf8, OnOk}
use Rattle.std.specs.Io.KnownBytes.{Appends}
use Rattle.mq_decode.specs.Limits.{Bounds}
use Rattle.mq_cli.specs.declared.stream.Shown.{Shown}
use Rattle.mq_cli.specs.Show.{Shows}
use Rattle.mq_packet.specs.Lines.{Prints}
use Rattle.mq_cli.specs.Printed.{no_memory, shown_lines}
use Rattle.mq_cli.specs.Status.{IsShowDone, IsTextReplayed, end_status, widest}
use Rattle.mq_schedule.specs.declared.schedule.Schedule.{Schedule}
use Rattle.mq_schedule.specs.Schedule.{IsSchedule, lines_of}
use Rattle.mq_replay.specs.Replay.{IsCutReplay, IsReplay}

-- one text after another
pub appends_then : (a b c : Option (List ℕ)) (x y : List ℕ) → Appends a b x → Appends b c y → Appends a c (x ++ y)
appends_then None b c x y h k = tt
appends_then (Some xs) None c x y h k = absurd h
appends_then (Some xs) (Some ys) None x y h k = absurd k
appends_then (Some xs) (Some ys) (Some zs) x y h k = k ∙ (ap (λ (t : List ℕ). t ++ y) h ∙ append_assoc xs x y)

-- one status with one text
pub printed_one : {E : Type 0} (r : Result ℕ E) (n : ℕ) (old new : Option (List ℕ)) (text : List ℕ) (P : ℕ → List ℕ → Type 0) → IfOk r (λ status. status ≡ n) → OnOk r (Appends old new text) → P n text
    → IfOk r (λ status. Prints old new (P status))
printed_one (Ok x) n old new text P h k p = (text, k, subst (λ (m : ℕ). P m text) (sym h) p)
printed_one (Err e) n old new text P h k p = tt

-- The result is that of `show`.
pub shown_done : {E : Type 0} (lenient : Bool) (limits : Bounds) (digits : List ℕ) (shown : Shown) (r : Result ℕ E) (old new : Option (List ℕ)) → limits ≡ widest lenient → Shows limits digits shown
    → IfOk r (λ status. status ≡ end_status shown.end) → OnOk r (Appends old new (shown_lines shown.packets.items shown.end)) → IfOk r (λ status. Prints old new (IsShowDone lenient digits status))
shown_done lenient limits digits shown r old new is shows h k =
    let here : Shows (widest lenient) digits shown = subst (λ (l : Bounds). Shows l digits shown) is shows in
    printed_one r (end_status shown.end) old new (shown_lines shown.packets.items shown.end) (IsShowDone lenient digits) h k (inl (shown, here, refl, refl))

-- A text, followed by the output of a function.
pub printed_then : {E : Type 0} (r : Result ℕ E) (a b c : Option (List ℕ)) (x y : List ℕ) → Appends a b x → OnOk r (Appends b c y) → OnOk r (Appends a c (x ++ y))
printed_then (Ok n) a b c x y h k = appends_then a b c x y h k
printed_then (Err e) a b c x y h k = tt

-- The output of a replay, followed by the line for a failed allocation.
pub cut_off : {E : Type 0} (text : List ℕ) (schedule : Schedule) (r : Result ℕ E) (a b c : Option (List ℕ)) → IsSchedule (lines_of text) schedule → Prints a b (IsCutReplay schedule)
    → IfOk r (λ status. status ≡ 3) → OnOk r (Appends b c no_memory) → IfOk r (λ status. Prints a c (IsTextReplayed text status))
cut_off text schedule (Ok n) a b c reads p status k = (p.0 ++ no_memory, appends_then a b c p.0 no_memory p.1 k, inr (inr (p.0, inr (schedule, reads, p.2), status, refl)))
cut_off text schedule (Err e) a b c reads p status k = tt

-- a replay to its end
pub replayed : (text : List ℕ) (schedule : Schedule) (a b : Option (List ℕ)) → IsSchedule (lines_of text) schedule → Prints a b (IsReplay schedule) → Prints a b (IsTextReplayed text 0)
replayed text schedule a b reads p = (p.0, p.1, inl (schedule, reads, p.2, refl))

-- bytes that are no UTF-8
pub no_text : (left : Option (List ℕ)) (bytes : List ℕ) → IfSome left (λ all. bytes ≡ all) → ¬ IsUtf8 bytes → IfSome left (λ all. ¬ IsUtf8 all)
no_text None bytes same none = tt
no_text (Some all) bytes same none = subst (λ (b : List ℕ). ¬ IsUtf8 b) same none
