use Rattle.std.proofs.Common.{arith}
use Rattle.mq_end.proofs.Digits.{one_digit, two_digits, three_digits, four_digits}
use Rattle.mq_end.proofs.size.digits.Goals as goal

pub returns-in-0-to-127-clause-value : goal.returns-in-0-to-127-clause-value
returns-in-0-to-127-clause-value c = one_digit c.args.rest (omega arith)

pub returns-in-128-to-16383-clause-value : goal.returns-in-128-to-16383-clause-value
returns-in-128-to-16383-clause-value c = two_digits c.args.rest (omega arith) (omega arith)

pub returns-in-16384-to-2097151-clause-value : goal.returns-in-16384-to-2097151-clause-value
returns-in-16384-to-2097151-clause-value c = three_digits c.args.rest (omega arith) (omega arith) (omega arith)

pub returns-in_default-clause-value : goal.returns-in_default-clause-value
returns-in_default-clause-value c = four_digits c.args.rest (omega arith) (omega arith) (omega arith)
