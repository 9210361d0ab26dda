use Rattle.mq_schedule.proofs.Codes.{byte_of, no_high, no_low}
use Rattle.mq_schedule.proofs.printed.byte.Goals as goal

pub returns-in_err-digit : goal.returns-in_err-digit
returns-in_err-digit c = rw c.from_residual.ensures (no_high c.args.high c.args.low c.in_err-digit.ensures)

pub returns-in_err-digit-2 : goal.returns-in_err-digit-2
returns-in_err-digit-2 c = rw c.from_residual-in_err-digit-2.ensures (no_low c.args.high c.args.low c.in_err-digit-2.ensures)

pub returns : goal.returns
returns c = byte_of c.in_ok-digit.field-0 c.in_ok-digit-2.field-0 c.args.high c.args.low c.in_ok-digit.ensures c.in_ok-digit-2.ensures
