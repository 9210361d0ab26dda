use Rattle.std.proofs.Common.{length}
use Rattle.mq_loop.proofs.Outcomes.{some_written}
use Rattle.mq_loop.proofs.socket.NonBlockingSocket.write.Goals as goal

pub returns-in-Some-clause-went : goal.returns-in-Some-clause-went
returns-in-Some-clause-went g c =
    some_written c.args.bytes.now c.in-Some.outcome (rw c.in-Some.is at (c.write_outcome.ensures.bytes (length c.args.bytes.now) c.write.ensures.bound))
