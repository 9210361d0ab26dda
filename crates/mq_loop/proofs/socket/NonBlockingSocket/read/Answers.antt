use Rattle.std.proofs.Common.{length}
use Rattle.mq_loop.proofs.Outcomes.{some_read, within_buffer}
use Rattle.mq_loop.proofs.socket.NonBlockingSocket.read.Goals as goal

pub returns-in-Some-clause-came : goal.returns-in-Some-clause-came
returns-in-Some-clause-came g c =
    let buffer = c.read.new.buf in
    some_read buffer c.in-Some.outcome (rw c.in-Some.is at (c.read_outcome.ensures.bytes (length buffer) (within_buffer c.read.result buffer c.read.ensures.bound)))
