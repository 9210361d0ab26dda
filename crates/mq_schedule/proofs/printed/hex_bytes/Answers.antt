use Rattle.std.proofs.Common.{length, ap, sym, ◌∙◌, arith}
use Rattle.mq_packet.specs.Lines.{byte_digits}
use Rattle.mq_schedule.proofs.Codes.{digits_code, no_pair, rest, short_pair, some_left, stuck}
use Rattle.mq_schedule.proofs.printed.hex_bytes.Goals as goal

pub returns-in_default-byte : goal.returns-in_default-byte
returns-in_default-byte c = λ all h.
    let at = c.pairs in
    let left = at.left.now in
    stuck byte_digits left (λ b after. no_pair left after b c.in_default-byte.ensures) (λ e. absurd (omega (arith, ap length e, c.in-len2-up.len_at_least)))
    (rest byte_digits digits_code at.bytes.items all left at.invariant.are h.0 (sym at.invariant.passed ∙ h.1))

pub returns-then-not-is_empty : goal.returns-then-not-is_empty
returns-then-not-is_empty c = λ all h.
    let at = c.pairs in
    let left = at.left.now in
    stuck byte_digits left (λ b after. short_pair left after b c.in_default.len_below) (some_left left c.if-not-is_empty.ensures)
    (rest byte_digits digits_code at.bytes.items all left at.invariant.are h.0 (sym at.invariant.passed ∙ h.1))
