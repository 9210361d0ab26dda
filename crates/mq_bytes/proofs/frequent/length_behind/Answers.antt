use Rattle.std.proofs.Common.{arith}
use Rattle.mq_bytes.proofs.Finding.{length_read}
use Rattle.mq_bytes.proofs.frequent.length_behind.Goals as goal

pub returns-in-Whole-clause-length : goal.returns-in-Whole-clause-length
returns-in-Whole-clause-length c =
    (length_read c.length_laws.ensures c.args.bytes.now _ _ (λ i. omega (arith, c.type_inv.bytes i)) c.in-Whole.ensures.read).formed

pub returns-in-Whole-clause-within : goal.returns-in-Whole-clause-within
returns-in-Whole-clause-within c =
    let h = length_read c.length_laws.ensures c.args.bytes.now _ _ (λ i. omega (arith, c.type_inv.bytes i)) c.in-Whole.ensures.read in
    (h.some, h.within)
