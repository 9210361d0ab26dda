use Rattle.std.proofs.Common.{sym, subst}
use Rattle.mq_cli.specs.declared.jobs.Source.{Source}
use Rattle.mq_packet.specs.Lines.{Prints}
use Rattle.mq_loopback.specs.Program.{IsInputRun}
use Rattle.mq_programs.specs.Inputs.{input_of}
use Rattle.mq_programs.proofs.loopback.run_loopback.Goals as goal

pub returns-in_ok-loopback_file-in-File : goal.returns-in_ok-loopback_file-in-File
returns-in_ok-loopback_file-in-File g c =
    subst (λ (s : Source). Prints (g.W.Write.contents c.args.output.now) (g.W.Write.contents c.loopback_file.new.output) (IsInputRun (input_of s (g.I.Read.remaining c.args.input.now)) c.in_ok-loopback_file-in-File.field-0))
    (sym c.in-File.is) c.in_ok-loopback_file-in-File.ensures

pub returns-in_ok-loopback-in-Standard : goal.returns-in_ok-loopback-in-Standard
returns-in_ok-loopback-in-Standard g c =
    subst (λ (s : Source). Prints (g.W.Write.contents c.args.output.now) (g.W.Write.contents c.loopback.new.output) (IsInputRun (input_of s (g.I.Read.remaining c.args.input.now)) c.in_ok-loopback-in-Standard.field-0))
    (sym c.in-Standard.is) c.in_ok-loopback-in-Standard.ensures
