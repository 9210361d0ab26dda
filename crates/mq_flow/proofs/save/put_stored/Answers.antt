use Rattle.std.proofs.Common.{◌<◌, length, arith}
use Rattle.mq_flow.proofs.Ascending.{keys_rise, rising_length}
use Rattle.mq_flow.proofs.save.put_stored.Goals as goal

pub overflow_cast-len : goal.overflow_cast-len
overflow_cast-len c =
    let few = rising_length 1 c.args.stored.now.keys (omega arith) (keys_rise c.args.stored.now.keys c.requires c.len.ensures.ordered) in
    let small : length c.args.stored.now.keys < 65536 = omega arith in
    omega (arith, small, c.len.ensures.len)
