use Rattle.std.proofs.Common.{refl, ap, Err, inl, inr}
use Rattle.mq_cli.specs.Printed.{bad_line}
use Rattle.mq_cli.specs.Status.{IsTextReplayed}
use Rattle.mq_cli.proofs.Printing.{cut_off, printed_one, replayed}
use Rattle.mq_cli.proofs.replaying.replay_text.Goals as goal

pub returns-in-Err-Line : goal.returns-in-Err-Line
returns-in-Err-Line g c =
    let line = c.in-Err-Line.line in
    let bad = c.in-Err-Line.ensures.line line (ap Err c.in-Err-Line.field-0-is) in
    let printed = rw c.in-Err-Line.field-0-is at c.write_bad_line.ensures.printed in
    printed_one c.write_bad_line.result 2 (g.W.Write.contents c.args.output.now) (g.W.Write.contents c.write_bad_line.new.output) (bad_line line) (IsTextReplayed c.args.text.now) c.write_bad_line.ensures.status printed
    (inr (inl (line, bad, refl, refl)))

pub returns-in-Ok-replay : goal.returns-in-Ok-replay
returns-in-Ok-replay g c =
    replayed c.args.text.now c.in-Ok.schedule (g.W.Write.contents c.args.output.now) (g.W.Write.contents c.replay.new.output) c.in-Ok.ensures.reads c.in-Ok-replay.ensures.printed

pub returns : goal.returns
returns g c =
    let printed = rw c.in-Err-Memory-replay.field-0-is at c.in-Err-Memory-replay.ensures.memory in
    cut_off c.args.text.now c.in-Ok.schedule c.out_of_memory-in-Err-Memory-replay.result (g.W.Write.contents c.args.output.now) (g.W.Write.contents c.replay.new.output) (g.W.Write.contents c.out_of_memory-in-Err-Memory-replay.new.output)
    c.in-Ok.ensures.reads printed c.out_of_memory-in-Err-Memory-replay.ensures.status c.out_of_memory-in-Err-Memory-replay.ensures.printed
