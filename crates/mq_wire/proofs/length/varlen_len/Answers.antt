use Rattle.std.proofs.Common.{arith}
use Rattle.mq_wire.proofs.Lengths.{size_one, size_two, size_three, size_four}
use Rattle.mq_wire.proofs.length.varlen_len.Goals as goal

pub returns-in-0-to-127-clause-size : goal.returns-in-0-to-127-clause-size
returns-in-0-to-127-clause-size c = λ b h. size_one c.args.n b (omega arith) h

pub returns-in-128-to-16383-clause-size : goal.returns-in-128-to-16383-clause-size
returns-in-128-to-16383-clause-size c = λ b h. size_two c.args.n b (omega arith) (omega arith) h

pub returns-in-16384-to-2097151-clause-size : goal.returns-in-16384-to-2097151-clause-size
returns-in-16384-to-2097151-clause-size c = λ b h. size_three c.args.n b (omega arith) (omega arith) h

pub returns-in-2097152-to-268435455-clause-size : goal.returns-in-2097152-to-268435455-clause-size
returns-in-2097152-to-268435455-clause-size c = λ b h. size_four c.args.n b (omega arith) h
