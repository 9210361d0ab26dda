use Rattle.mq_packet.proofs.Written.{Written}
use Rattle.mq_client.proofs.lines.write_bytes.Given as goal

abbrev pub invariant-loop : goal.invariant-loop
invariant-loop g l = Written (g.W.Write.contents l.initial.output) (g.W.Write.contents l.output) l.bytes l.rest
