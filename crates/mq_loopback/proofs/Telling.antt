-- The output, in the terms of the whole program.
use Rattle.std.proofs.Common.{◌≡◌, ◌++◌, ℕ, List, [], Option, None, Some, Result, Ok, Err, refl, sym, subst, inl, inr, ◌∙◌}
use Rattle.std.specs.Prelude.{IfOk, IfSome, OnOk}
use Rattle.std.specs.Io.KnownBytes.{Appends}
use Rattle.mq_packet.specs.Lines.{Prints}
use Rattle.mq_loopback.specs.declared.client.Client.{Client}
use Rattle.mq_loopback.specs.declared.rig.RunError.{RunError}
use Rattle.mq_loopback.specs.declared.rig.RunResult.{RunResult}
use Rattle.mq_loopback.specs.Printed.{play_end_line, play_end_status, unread_line}
use Rattle.mq_loopback.specs.Program.{Ends, IsInputRun, IsLoopback, IsNoFile, IsPlayed, IsRunDone}

-- one status with one text
printed_one : {E : Type 0} (r : Result ℕ E) (n : ℕ) (old new : Option (List ℕ)) (text : List ℕ) (P : ℕ → List ℕ → Type 0) → IfOk r (λ status. status ≡ n) → OnOk r (Appends old new text) → P n text
    → IfOk r (λ status. Prints old new (P status))
printed_one (Ok x) n old new text P h k p = (text, k, subst (λ (m : ℕ). P m text) (sym h) p)
printed_one (Err e) n old new text P h k p = tt

-- clients and broker ended before all was done
pub cut_off : {E : Type 0} (r : Result ℕ E) (old new : Option (List ℕ)) (end : RunError) (clients : List Client) (run : RunResult) → IfOk r (λ status. status ≡ play_end_status end) → OnOk r (Appends old new (play_end_line end))
    → IfOk r (λ status. Prints old new (Ends clients run status))
cut_off r old new end clients run h k = printed_one r (play_end_status end) old new (play_end_line end) (Ends clients run) h k (inr (end, refl, refl))

-- the clients did not run to their end
pub not_played : {E : Type 0} (r : Result ℕ E) (old new : Option (List ℕ)) (end : RunError) (clients : List Client) → IfOk r (λ status. status ≡ play_end_status end) → OnOk r (Appends old new (play_end_line end))
    → IfOk r (λ status. Prints old new (IsRunDone clients status))
not_played r old new end clients h k = printed_one r (play_end_status end) old new (play_end_line end) (IsRunDone clients) h k (inr (end, refl, refl))

-- the result of a run is printed
pub run_told : {E : Type 0} (r : Result ℕ E) (old new : Option (List ℕ)) (clients : List Client) (run : RunResult) → IsPlayed clients run → IfOk r (λ status. Prints old new (Ends clients run status))
    → IfOk r (λ status. Prints old new (IsRunDone clients status))
run_told (Ok status) old new clients run played told = (told.0, told.1, inl (run, played, told.2))
run_told (Err e) old new clients run played told = tt

-- it ended before the text was read
pub cut_off_before : {E : Type 0} (r : Result ℕ E) (old new : Option (List ℕ)) (end : RunError) (file : List ℕ) → IfOk r (λ status. status ≡ play_end_status end) → OnOk r (Appends old new (play_end_line end))
    → IfOk r (λ status. Prints old new (IsLoopback file status))
cut_off_before r old new end file h k = printed_one r (play_end_status end) old new (play_end_line end) (IsLoopback file) h k (inr (inr (end, refl, refl)))

-- it ended before there was a text
pub cut_off_at_once : {E : Type 0} (r : Result ℕ E) (old new : Option (List ℕ)) (end : RunError) → IfOk r (λ status. status ≡ play_end_status end) → OnOk r (Appends old new (play_end_line end)) → IfOk r (λ status. Prints old new (IsNoFile status))
cut_off_at_once r old new end h k = printed_one r (play_end_status end) old new (play_end_line end) IsNoFile h k (inr (end, refl, refl))

-- there is not a text
pub unread : {E : Type 0} (r : Result ℕ E) (old new : Option (List ℕ)) → IfOk r (λ status. status ≡ 2) → OnOk r (Appends old new unread_line) → IfOk r (λ status. Prints old new (IsNoFile status))
unread r old new h k = printed_one r 2 old new unread_line IsNoFile h k (inl (refl, refl))

-- no text was read from an input
pub no_file_run : {E : Type 0} (r : Result ℕ E) (input old new : Option (List ℕ)) → IfOk r (λ status. Prints old new (IsNoFile status)) → IfOk r (λ status. Prints old new (IsInputRun input status))
no_file_run (Ok status) input old new told = (told.0, told.1, inr told.2)
no_file_run (Err e) input old new told = tt

-- the text of an input was run
pub text_run : {E : Type 0} (r : Result ℕ E) (input old new : Option (List ℕ)) (file : List ℕ) → IfSome input (λ all. file ≡ all) → IfOk r (λ status. Prints old new (IsLoopback file status)) → IfOk r (λ status. Prints old new (IsInputRun input status))
text_run (Ok status) input old new file own told = (told.0, told.1, inl (file, own, told.2))
text_run (Err e) input old new file own told = tt

-- whatever is known of an input is its text
pub own_text : (input : Option (List ℕ)) (bytes file : List ℕ) → IfSome input (λ all. bytes ≡ [] ++ all) → file ≡ bytes → IfSome input (λ all. file ≡ all)
own_text None bytes file own same = tt
own_text (Some all) bytes file own same = same ∙ own
