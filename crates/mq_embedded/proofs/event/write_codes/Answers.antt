use Rattle.std.proofs.Common.{take, arith}
use Rattle.std.proofs.lemmas.List.{length-take-le}
use Rattle.mq_embedded.proofs.Codes.{codes_size}
use Rattle.mq_embedded.proofs.event.write_codes.Goals as goal

pub put-at-requires : goal.put-at-requires
put-at-requires c =
    let n = c.loop-code.code-index in
    let codes = c.args.codes.now in
    omega (arith, codes_size codes, codes_size (take n codes), length-take-le n codes (omega arith), c.loop-code.invariant.at, c.loop-code.invariant.size)
