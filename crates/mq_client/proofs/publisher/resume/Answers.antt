use Rattle.std.proofs.Common.{subst}
use Rattle.std.specs.Io.KnownBytes.{Appends}
use Rattle.mq_client.specs.Printed.{resumed_line}
use Rattle.mq_client.proofs.Resumed.{resumed_then}
use Rattle.mq_client.proofs.publisher.resume.Goals as goal

pub returns : goal.returns
returns g c =
    let w = g.W.Write.contents in
    let line = subst (λ n. Appends (w c.args.output.now) (w c.writeln.new.self) (resumed_line n)) c.resumed-resumed.ensures c.in_ok-writeln.ensures.bytes in
    resumed_then c.publish.result c.args.peer.now c.publish.new.peer c.args.texts.now (w c.args.output.now) (w c.writeln.new.self) (w c.flush.new.self) (w c.publish.new.output) line c.in_ok-flush.ensures.bytes c.publish.ensures
