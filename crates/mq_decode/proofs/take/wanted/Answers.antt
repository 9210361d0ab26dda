use Rattle.std.proofs.Common.{refl, sym, ◌∙◌, arith}
use Rattle.mq_decode.proofs.Wanting.{wants_one, wants_most}
use Rattle.mq_decode.proofs.take.wanted.Goals as goal

pub returns-in-Ok-Some-clause-exact : goal.returns-in-Ok-Some-clause-exact
returns-in-Ok-Some-clause-exact c =
    wants_most (record { numbers = c.number_laws.ensures; texts = c.text_laws.ensures; lengths = c.length_laws.ensures }) c.args.limits c.args.held.now c.in-Ok-Some.header c.max.result
    (λ i. omega (arith, c.type_inv.held i)) (sym c.header_at.ensures.read ∙ (c.in-Ok-Some.is ∙ rw c.in-Ok-Some.field-0-is refl)) (λ lt. omega arith) (λ le. omega arith)

pub returns-in_default-clause-exact : goal.returns-in_default-clause-exact
returns-in_default-clause-exact c = wants_one c.args.limits c.args.held.now

pub returns-in_default-2-clause-exact : goal.returns-in_default-2-clause-exact
returns-in_default-2-clause-exact c = wants_one c.args.limits c.args.held.now
