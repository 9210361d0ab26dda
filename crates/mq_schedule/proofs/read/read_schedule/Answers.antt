use Rattle.std.proofs.Common.{Err, sym, ap, ◌∙◌}
use Rattle.std.specs.Io.BufRead.{strip_last}
use Rattle.mq_schedule.specs.Parts.{parts}
use Rattle.mq_schedule.proofs.Reading.{fault_is, stops_after}
use Rattle.mq_schedule.proofs.read.read_schedule.Goals as goal

pub returns-in_err-steps-in-Some-clause-line : goal.returns-in_err-steps-in-Some-clause-line
returns-in_err-steps-in-Some-clause-line c = λ n e.
    let fault = fault_is c.from_residual-in_err-steps-in-Some.result c.in_err-steps-in-Some.field-0.0 n c.from_residual-in_err-steps-in-Some.ensures.1 e in
    let behind = rw c.in-Some.is at c.first_part.ensures in
    let lines = ap (parts 10) (sym c.without_feed.ensures) ∙ behind in
    let world = rw c.in_ok-limits.ensures.ok_part at c.world.ensures.world in
    let strict = rw c.in_ok-limits.ensures.ok_part at c.world.ensures.strict in
    stops_after (parts 10 (strip_last 10 c.args.text.now)) (parts 10 c.in-Some.lines.now) c.first_part.result.0.now c.in_ok-limits.limits c.in_ok-limits.capacity c.in_ok-limits.window n lines strict world (c.in_err-steps-in-Some.ensures.line n (ap Err fault))
