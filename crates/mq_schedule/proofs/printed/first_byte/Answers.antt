use Rattle.std.proofs.Common.{sym, ◌∙◌}
use Rattle.mq_schedule.proofs.Codes.{escape, no_escape, no_pair, short_pair}
use Rattle.mq_schedule.proofs.printed.first_byte.Goals as goal

pub returns-in_default-clause-none : goal.returns-in_default-clause-none
returns-in_default-clause-none c = λ b after lt e.
    let left = c.in_ok-first.after.now in
    let parts = escape c.in_ok-first.first.now b left after (sym c.if-is_plain.ensures) (sym c.in_ok-first.ensures.cases.0 ∙ e) in
    short_pair left after b c.in_default.len_below lt parts.2

pub returns-in_err-byte-clause-none : goal.returns-in_err-byte-clause-none
returns-in_err-byte-clause-none c = rw c.from_residual-in_err-byte.ensures (λ b after lt e.
    let left = c.in_ok-first.after.now in
    let parts = escape c.in_ok-first.first.now b left after (sym c.if-is_plain.ensures) (sym c.in_ok-first.ensures.cases.0 ∙ e) in
    no_pair left after b c.in_err-byte.ensures lt parts.2)

pub returns-then-is_plain-2-clause-none : goal.returns-then-is_plain-2-clause-none
returns-then-is_plain-2-clause-none c = λ b after lt e.
    let found = c.in_ok-byte.ensures in
    no_escape c.in_ok-first.first.now c.in_ok-byte.byte b c.in_ok-first.after.now after (sym c.if-is_plain.ensures) found.0 found.1 (sym c.if-is_plain-2.ensures) lt (sym c.in_ok-first.ensures.cases.0 ∙ e)
