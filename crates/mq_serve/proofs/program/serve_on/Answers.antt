use Rattle.std.proofs.Common.{rules}
use Rattle.std.specs.Io.KnownBytes.{Appends}
use Rattle.mq_serve.specs.Printed.{listening_line}
use Rattle.mq_serve.proofs.Reports.{heard}
use Rattle.mq_serve.proofs.program.serve_on.Goals as goal

pub returns-clause-printed : goal.returns-clause-printed
returns-clause-printed g c =
    let w = c.in_ok-writeln.ensures.bytes in let f = c.in_ok-flush.ensures.bytes in
    let line : Appends (g.W.Write.contents c.args.output.now) (g.W.Write.contents c.flush.new.self) (listening_line c.in-Ok.address) = search rules in
    heard c.serve_to_end.result c.in-Ok.address _ _ _ _ _ _ line c.serve_to_end.ensures.printed
