use Rattle.std.proofs.Common.{arith, sym, ◌∙◌}
use Rattle.mq_wire.proofs.Texts.{is_text}
use Rattle.mq_wire.proofs.text.Text.new.Goals as goal

pub invariant_of-result : goal.invariant_of-result
invariant_of-result c =
    rw c.in-Ok.ensures (is_text c.args.text.now c.utf8.text (rw c.as_bytes.ensures.value at (sym c.contains.ensures.value ∙ c.if-contains.false)) (omega arith))
