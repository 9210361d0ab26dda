use Rattle.std.proofs.Common.{arith, ◌%◌, ◌/◌, ◌+◌}
use Rattle.mq_wire.proofs.Lengths.{form_three, form_four}
use Rattle.mq_wire.proofs.length.put_varlen.Goals as goal

pub returns-in-16384-to-2097151-clause-form : goal.returns-in-16384-to-2097151-clause-form
returns-in-16384-to-2097151-clause-form c =
    let n = c.args.n in
    form_three n (n % 128 + 128) (n / 128 % 128 + 128) (n / 16384 % 128) (omega arith) (omega arith) (omega arith) (omega arith) (omega arith) (omega arith) (omega arith)

pub returns-in-2097152-to-268435455-clause-form : goal.returns-in-2097152-to-268435455-clause-form
returns-in-2097152-to-268435455-clause-form c =
    let n = c.args.n in
    form_four n (n % 128 + 128) (n / 128 % 128 + 128) (n / 16384 % 128 + 128) (n / 2097152) (omega arith) (omega arith) (omega arith) (omega arith) (omega arith) (omega arith) (omega arith) (omega arith) (omega arith)
