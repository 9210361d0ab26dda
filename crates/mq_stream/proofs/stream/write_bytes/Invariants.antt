use Rattle.mq_packet.proofs.Written.{Written}
use Rattle.mq_stream.proofs.stream.write_bytes.Given as goal

abbrev pub invariant-loop : goal.invariant-loop
invariant-loop g l = Written (g.W.Write.contents l.initial.writer) (g.W.Write.contents l.writer) l.bytes l.rest
