use Rattle.std.proofs.Common.{List, ℕ, Option, ap, subst, sym, ◌∙◌, arith}
use Rattle.std.specs.Prelude.{IfSome}
use Rattle.mq_decode.specs.Inside.Front.{header_at, len_told}
use Rattle.mq_decode.specs.Grammar.{HasHeader}
use Rattle.mq_decode.proofs.FrontLaws.{told_len, told_is}
use Rattle.mq_decode.proofs.FrontFound.{told_found}
use Rattle.mq_decode.proofs.size.packet_len.Goals as goal

pub returns-clause-header : goal.returns-clause-header
returns-clause-header c = λ size h.
    c.len_told.ensures ∙ told_is (record { numbers = c.number_laws.ensures; texts = c.text_laws.ensures; lengths = c.length_laws.ensures }) c.args.limits c.args.bytes.now size h

pub returns-clause-told : goal.returns-clause-told
returns-clause-told c =
    subst (λ (o : Option ℕ). IfSome o (HasHeader c.args.limits c.args.bytes.now)) (sym c.len_told.ensures)
    (told_found (record { numbers = c.number_laws.ensures; texts = c.text_laws.ensures; lengths = c.length_laws.ensures }) c.args.limits c.args.bytes.now (λ i. omega (arith, c.type_inv.bytes i)))

pub returns-clause-packet : goal.returns-clause-packet
returns-clause-packet c = λ p s rest h e.
    c.len_told.ensures ∙ (ap (λ (b : List ℕ). len_told (header_at c.args.limits b)) e
    ∙ told_len (record { numbers = c.number_laws.ensures; texts = c.text_laws.ensures; lengths = c.length_laws.ensures }) c.args.limits p s rest h)
