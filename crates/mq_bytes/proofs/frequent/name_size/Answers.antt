use Rattle.std.proofs.Common.{◌≡◌, ◌+◌, ◌<◌, length, slice_range, sym, ◌∙◌, arith}
use Rattle.mq_bytes.proofs.Finding.{counted_front, is_name, slice_size}
use Rattle.mq_bytes.proofs.frequent.name_size.Goals as goal

pub returns-clause-name : goal.returns-clause-name
returns-clause-name c =
    let size : length (slice_range c.args.fields.now 2 (2 + c.from-size.result)) ≡ c.from-size.result = slice_size c.args.fields.now c.from-size.result (omega arith) in
    let below = c.number_laws.ensures.below c.args.fields.now 0 (λ i. omega (arith, c.type_inv.fields i)) in
    let some : 0 < c.from-size.result = omega (arith, c.if-size-eq0.false) in
    is_name _ (sym c.has_other.ensures ∙ c.if-has_other.false) (omega arith) (omega (arith, below, c.from-size.ensures, c.number_at.ensures))

pub returns-clause-parts : goal.returns-clause-parts
returns-clause-parts c =
    counted_front c.number_laws.ensures c.args.fields.now _ (λ i. omega (arith, c.type_inv.fields i)) (omega arith) (c.from-size.ensures ∙ c.number_at.ensures)
