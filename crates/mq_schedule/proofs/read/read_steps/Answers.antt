use Rattle.std.proofs.Common.{◌+◌, subst, lit<}
use Rattle.std.proofs.lemmas.Iterator.Consumers.{YieldsList-so_far, YieldsList-turn, YieldsList-end}
use Rattle.std.proofs.lemmas.Iterator.Splits.{YieldsList-from_str_split}
use Rattle.mq_schedule.specs.Parts.{AreSteps, parts}
use Rattle.mq_schedule.proofs.Reading.{fault_is, number_is, step_more, stops}
use Rattle.mq_schedule.proofs.read.read_steps.Goals as goal

pub returns-in_err-step-2-clause-line : goal.returns-in_err-step-2-clause-line
returns-in_err-step-2-clause-line c = λ n e.
    let at = c.loop-line in
    let text = c.args.lines.now in
    let fault = fault_is c.from_residual-in_err-step-2.result c.in_err-step-2.field-0.0 n c.from_residual-in_err-step-2.ensures.1 e in
    let none = c.in_err-step-2.ensures.ok_part in
    let number = number_is c.in_ok-step.field-0 (c.len-number.result + 2) n c.in_err-step-2.field-0.0 none c.in_err-step-2.ensures.value fault in
    let front = YieldsList-so_far (YieldsList-from_str_split 10 text (lit< tt) (cc) (cc) (cc)) at.yielded _ at.yielded_by in
    let here = YieldsList-turn (YieldsList-from_str_split 10 text (lit< tt) (cc) (cc) (cc)) at.yielded _ at.yielded_by _ _ c.in-Some.line c.in-Some.is c.next.ensures.steps in
    stops (parts 10 text) at.steps at.yielded c.in-Some.line.now c.len-number.result n at.invariant.read front here c.len-number.ensures number (rw none at c.in_ok-step.ensures)

pub loop-line-preserved : goal.loop-line-preserved
loop-line-preserved c =
    let step = rw c.in_ok-step-2.ensures.ok_part at c.in_ok-step.ensures in
    record { can_next = tt; is_finite = tt; read = step_more c.loop-line.steps.items c.push.new.steps.items c.loop-line.yielded c.in_ok-step-2.step c.in-Some.line c.loop-line.invariant.read step c.in_ok-push.ensures }

pub returns-clause-steps : goal.returns-clause-steps
returns-clause-steps c =
    let at = c.loop-line in
    let text = c.args.lines.now in
    let all = YieldsList-end (YieldsList-from_str_split 10 text (lit< tt) (cc) (cc) (cc)) at.yielded _ at.yielded_by _ _ c.in-None.is c.next.ensures.steps in
    subst (λ lines. AreSteps at.steps.items lines) all.0 at.invariant.read
