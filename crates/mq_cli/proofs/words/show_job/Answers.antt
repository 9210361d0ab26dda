use Rattle.std.proofs.Common.{inr}
use Rattle.mq_cli.proofs.words.show_job.Goals as goal

pub returns-in-None-Some : goal.returns-in-None-Some
returns-in-None-Some c =
    let hex = rw c.in-None-Some.is-0 at c.in_ok-hex.ensures in
    let file = rw c.in-None-Some.is-1 at c.in_ok-file.ensures in
    (inr (hex, (c.in-None-Some.file.now, file, c.file_or_input.ensures)), c.in_ok-lenient.ensures)
