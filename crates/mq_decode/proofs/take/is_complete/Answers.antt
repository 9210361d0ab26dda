use Rattle.std.proofs.Common.{refl, sym, ◌∙◌, arith}
use Rattle.std.proofs.lemmas.Bool.{leb-true}
use Rattle.mq_decode.proofs.Wanting.{complete_not}
use Rattle.mq_decode.proofs.take.is_complete.Goals as goal

pub returns-in-Ok-Some : goal.returns-in-Ok-Some
returns-in-Ok-Some c = λ long pending.
    complete_not (record { numbers = c.number_laws.ensures; texts = c.text_laws.ensures; lengths = c.length_laws.ensures }) c.args.limits c.args.held.now c.in-Ok-Some.header
    (λ i. omega (arith, c.type_inv.held i)) (sym c.header_at.ensures.read ∙ (c.in-Ok-Some.is ∙ rw c.in-Ok-Some.field-0-is refl)) (leb-true _ _ long) pending
