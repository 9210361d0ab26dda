use Rattle.std.proofs.Common.{sym, ◌∙◌}
use Rattle.mq_packet.specs.Lines.{escaped_byte}
use Rattle.mq_schedule.proofs.Codes.{escaped_code, rest, some_left, stuck}
use Rattle.mq_schedule.proofs.printed.unescaped.Goals as goal

pub returns-in_default : goal.returns-in_default
returns-in_default c = λ all h.
    let at = c.bytes in
    let left = at.left.now in
    stuck escaped_byte left c.in_default.ensures.none (some_left left c.bytes-test.ensures)
    (rest escaped_byte escaped_code at.text.items all left at.invariant.are h.0 (sym at.invariant.passed ∙ h.1))
