use Rattle.std.proofs.Common.{sym, ◌∙◌, arith}
use Rattle.mq_decode.proofs.Wanting.{bad_end_not, long_not, no_end_pending, short_pending, short_wants}
use Rattle.mq_decode.proofs.take.lacking.Goals as goal

pub returns-then-held-end-clause-pending : goal.returns-then-held-end-clause-pending
returns-then-held-end-clause-pending c =
    short_pending (record { numbers = c.number_laws.ensures; texts = c.text_laws.ensures; lengths = c.length_laws.ensures }) c.args.limits c.args.held.now c.in-Ok-Some.end
    (sym c.end_at.ensures ∙ (c.in-Ok-Some.is ∙ rw c.in-Ok-Some.field-0-is)) (omega arith)

pub returns-then-held-end-clause-exact : goal.returns-then-held-end-clause-exact
returns-then-held-end-clause-exact c =
    short_wants (record { numbers = c.number_laws.ensures; texts = c.text_laws.ensures; lengths = c.length_laws.ensures }) c.args.limits c.args.held.now c.in-Ok-Some.end _
    (λ i. omega (arith, c.type_inv.held i)) (sym c.end_at.ensures ∙ (c.in-Ok-Some.is ∙ rw c.in-Ok-Some.field-0-is)) (omega arith)

pub returns-else-held-end-clause-none : goal.returns-else-held-end-clause-none
returns-else-held-end-clause-none c =
    long_not (record { numbers = c.number_laws.ensures; texts = c.text_laws.ensures; lengths = c.length_laws.ensures }) c.args.limits c.args.held.now c.in-Ok-Some.end
    (λ i. omega (arith, c.type_inv.held i)) (sym c.end_at.ensures ∙ (c.in-Ok-Some.is ∙ rw c.in-Ok-Some.field-0-is)) (omega arith)

pub returns-in-Ok-None-clause-pending : goal.returns-in-Ok-None-clause-pending
returns-in-Ok-None-clause-pending c =
    no_end_pending (record { numbers = c.number_laws.ensures; texts = c.text_laws.ensures; lengths = c.length_laws.ensures }) c.args.limits c.args.held.now
    (sym c.end_at.ensures ∙ (c.in-Ok-None.is ∙ rw c.in-Ok-None.field-0-is))

pub returns-in-Err-clause-none : goal.returns-in-Err-clause-none
returns-in-Err-clause-none c =
    bad_end_not (record { numbers = c.number_laws.ensures; texts = c.text_laws.ensures; lengths = c.length_laws.ensures }) c.args.limits c.args.held.now c.in-Err.field-0
    (λ i. omega (arith, c.type_inv.held i)) (sym c.end_at.ensures ∙ c.in-Err.is)
