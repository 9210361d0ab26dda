use Rattle.std.specs.Io.KnownBytes.{Keeps}
use Rattle.mq_serve.specs.Polled.{written_of}
use Rattle.mq_serve.proofs.polled_stream.PolledStream.read_meanwhile.Given as goal

abbrev pub invariant-loop : goal.invariant-loop
invariant-loop g l = Keeps (written_of l.initial.self) (written_of l.self)
