use Rattle.std.proofs.Common.{◌+◌, sym, ◌∙◌, arith}
use Rattle.std.proofs.lemmas.List.{length-take, length-drop}
use Rattle.mq_wire.proofs.Texts.{checked_is, stands_is}
use Rattle.mq_wire.proofs.text.text_at.Goals as goal

pub returns-in-Ok-clause-stands : goal.returns-in-Ok-clause-stands
returns-in-Ok-clause-stands c =
    stands_is c.args.bytes.now c.in-Ok.text (c.args.at + 2) c.number_at-count.result _ (checked_is _ c.in-Ok.text (sym c.in-Ok.is ∙ c.checked_text.ensures)) (omega arith)
