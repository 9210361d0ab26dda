-- The command `replay --svg`.
use Rattle.std.proofs.Common.{◌≡◌, ℕ, false, List, ◌++◌, Option, Some, None, Result, Ok, Err, IfOk, inl, inr, sym, ap, subst, ◌∙◌, append-nil}
use Rattle.std.proofs.KnownBytes.{Appends-trans}
use Rattle.std.specs.Io.KnownBytes.{Appends, Keeps}
use Rattle.mq_packet.specs.Lines.{Prints}
use Rattle.mq_cli.specs.Status.{IsReplayDone}
use Rattle.mq_cli.specs.declared.jobs.Source.{Source}
use Rattle.mq_programs.specs.Drawing.{IsDrawRun}
use Rattle.mq_programs.specs.Inside.Drawing.{IsSaved}
use Rattle.mq_programs.specs.Inputs.{input_of}
use Rattle.std.specs.Prelude.{IfSome}

-- a flush keeps the output
kept : (a b c : Option (List ℕ)) (text : List ℕ) → Appends a b text → Keeps b c → Appends a c text
kept None b c text p q = tt
kept (Some x) None c text p q = absurd p
kept (Some x) (Some y) None text p q = absurd q
kept (Some x) (Some y) (Some z) text p q = q ∙ p

pub flushed : {P : List ℕ → Type 0} (a b c : Option (List ℕ)) → Prints a b P → Keeps b c → Prints a c P
flushed a b c h q = (h.0, kept a b c h.0 h.1 q, h.2)

-- the replay alone
pub replayed : (source : Source) (input : Option (List ℕ)) (bytes : List ℕ) (status : ℕ) (old new : Option (List ℕ)) → IfSome (input_of source input) (λ all. bytes ≡ all) → Prints old new (IsReplayDone (Some bytes) false status)
    → Prints old new (IsDrawRun source input status)
replayed source input bytes status old new own done = (done.0, done.1, inl (bytes, own, inl done.2))

-- the replay, and then the output for the image
then_saved : (source : Source) (input : Option (List ℕ)) (bytes front text : List ℕ) (status : ℕ) (old mid new : Option (List ℕ)) → IfSome (input_of source input) (λ all. bytes ≡ all) → Appends old mid front → IsReplayDone (Some bytes) false 0 front
    → Appends mid new text → IsSaved status text → Prints old new (IsDrawRun source input status)
then_saved source input bytes front text status old mid new own first done printed (inl saved) =
    let whole : front ++ text ≡ front = ap (λ t. front ++ t) saved.1 ∙ append-nil front in
    let replay : IsReplayDone (Some bytes) false status front = subst (λ (n : ℕ). IsReplayDone (Some bytes) false n front) (sym saved.0) done in
    (front, subst (Appends old new) whole (Appends-trans old mid new front text first printed), inl (bytes, own, inl replay))
then_saved source input bytes front text status old mid new own first done printed (inr failed) =
    (front ++ text, Appends-trans old mid new front text first printed, inl (bytes, own, inr (front, done, failed.0, ap (λ t. front ++ t) failed.1)))

pub drawn : {E : Type 0} (r : Result ℕ E) (source : Source) (input : Option (List ℕ)) (bytes : List ℕ) (old mid new : Option (List ℕ)) → IfSome (input_of source input) (λ all. bytes ≡ all) → Prints old mid (IsReplayDone (Some bytes) false 0)
    → IfOk r (λ status. Prints mid new (IsSaved status)) → IfOk r (λ status. Prints old new (IsDrawRun source input status))
drawn (Ok status) source input bytes old mid new own done saved = then_saved source input bytes done.0 saved.0 status old mid new own done.1 done.2 saved.1 saved.2
drawn (Err e) source input bytes old mid new own done saved = tt
