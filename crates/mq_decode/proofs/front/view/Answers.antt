use Rattle.std.proofs.Common.{ℕ, List, ap, ◌∙◌, arith}
use Rattle.mq_decode.specs.Inside.Front.{fault_at, front_at}
use Rattle.mq_decode.proofs.FrontLaws.{whole_again, faulty_again}
use Rattle.mq_decode.proofs.FrontFound.{view_is, more_is, fault_is}
use Rattle.mq_decode.proofs.Wanting.{pending_none}
use Rattle.mq_decode.proofs.front.view.Goals as goal

pub returns-clause-front : goal.returns-clause-front
returns-clause-front c =
    view_is (record { numbers = c.number_laws.ensures; texts = c.text_laws.ensures; lengths = c.length_laws.ensures }) c.args.limits c.args.bytes.now c.read_front.result
    (λ i. omega (arith, c.type_inv.bytes i)) c.read_front.ensures.read

pub returns-clause-whole : goal.returns-clause-whole
returns-clause-whole c = λ p s rest h e.
    c.read_front.ensures.read ∙ (ap (λ (b : List ℕ). front_at c.args.limits b) e
    ∙ whole_again (record { numbers = c.number_laws.ensures; texts = c.text_laws.ensures; lengths = c.length_laws.ensures }) c.args.limits p s rest h)

pub returns-clause-more : goal.returns-clause-more
returns-clause-more c = λ pending.
    more_is c.read_front.result (c.read_front.ensures.read
    ∙ pending_none (record { numbers = c.number_laws.ensures; texts = c.text_laws.ensures; lengths = c.length_laws.ensures }) c.args.limits c.args.bytes.now (λ i. omega (arith, c.type_inv.bytes i)) pending)

pub returns-clause-fault : goal.returns-clause-fault
returns-clause-fault c = λ k place bad.
    fault_is c.read_front.result (fault_at k place) (c.read_front.ensures.read
    ∙ faulty_again (record { numbers = c.number_laws.ensures; texts = c.text_laws.ensures; lengths = c.length_laws.ensures }) c.args.limits c.args.bytes.now k place bad)
