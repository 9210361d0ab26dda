use Rattle.std.proofs.Common.{arith}
use Rattle.mq_decode.proofs.decoder.len_of.Goals as goal

pub returns-clause-most : goal.returns-clause-most
returns-clause-most c = λ pending. c.pending_is_short.ensures c.args.limits c.args.held.now (λ i. omega (arith, c.type_inv.held i)) pending
