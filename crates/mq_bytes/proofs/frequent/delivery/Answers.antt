use Rattle.std.proofs.Common.{◌∙◌, arith}
use Rattle.mq_bytes.proofs.Finding.{number_there}
use Rattle.mq_bytes.proofs.frequent.delivery.Goals as goal

pub returns-clause-parts : goal.returns-clause-parts
returns-clause-parts c =
    number_there c.number_laws.ensures c.args.fields.now c.args.at c.in_ok-id.id (λ i. omega (arith, c.type_inv.fields i)) (omega arith) (c.in_ok-id.ensures.value ∙ c.number_at.ensures)
