use Rattle.std.proofs.Common.{ℕ, List, refl, subst, inl, inr}
use Rattle.std.specs.Prelude.{IsUtf8}
use Rattle.mq_cli.specs.Printed.{file_not_read}
use Rattle.mq_cli.specs.Status.{IsReplayDone}
use Rattle.mq_cli.proofs.Printing.{no_text, printed_one}
use Rattle.mq_cli.proofs.replaying.replay_file.Goals as goal

pub returns : goal.returns
returns g c =
    let cases = rw c.in-Err.is at c.from_utf8.ensures.cases in
    let none : ¬ IsUtf8 c.in-Ok.bytes = subst (λ (bytes : List ℕ). ¬ IsUtf8 bytes) c.as_slice.ensures cases.0 in
    printed_one c.file_not_read-in-Err.result 2 (g.W.Write.contents c.args.output.now) (g.W.Write.contents c.file_not_read-in-Err.new.output) file_not_read (IsReplayDone (g.R.JobInput.remaining c.args.input.now) (g.R.JobInput.may_fail c.args.input.now))
    c.file_not_read-in-Err.ensures.status c.file_not_read-in-Err.ensures.printed (inr (inl (refl, refl, inr (no_text (g.R.JobInput.remaining c.args.input.now) c.in-Ok.bytes c.in-Ok.ensures.bytes none))))
