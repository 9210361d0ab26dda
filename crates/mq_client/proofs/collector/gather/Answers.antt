use Rattle.std.proofs.Common.{refl, ◌∙◌, ap, subst, option_to_list, ◌-◌, length, flat_map}
use Rattle.std.specs.Io.KnownBytes.{Appends}
use Rattle.mq_client.specs.Collecting.{handed}
use Rattle.mq_client.specs.Printed.{told_line}
use Rattle.mq_client.proofs.Courses.{on_err}
use Rattle.mq_client.proofs.Gathers.{gather_fails, gathered, gathered_lost, gathered_more, gathering_more, gathering_none}
use Rattle.mq_client.proofs.collector.gather.Goals as goal

pub loop-init : goal.loop-init
loop-init g c = gathering_none _ _ _

pub loop-preserved : goal.loop-preserved
loop-preserved g c =
    let lines = subst (λ hs. Appends (g.W.Write.contents c.loop.output) (g.W.Write.contents c.print_told.new.output) (flat_map told_line hs)) c.as_slice.ensures c.in_ok-print_told.ensures.ok in
    let wanted = c.left_after-left.ensures ∙ ap (λ hs. c.loop.left - length (flat_map handed hs)) c.as_slice-in-loop.ensures in
    gathering_more _ _ _ _ _ _ _ _ _ _ c.in-Ok.progress.happenings (option_to_list c.in-Ok.progress.closed) c.loop.invariant c.in-Ok.ensures.went lines wanted c.in_default.ensures.closes c.answer.ensures.went (c.if-is_enough.ensures.no refl)

pub returns-then-is_enough-clause-ok : goal.returns-then-is_enough-clause-ok
returns-then-is_enough-clause-ok g c = gathered _ _ _ _ _ _ c.loop.invariant (c.if-is_enough.ensures.yes refl)

pub returns-in-Err-clause-ok : goal.returns-in-Err-clause-ok
returns-in-Err-clause-ok g c = gathered_lost _ _ _ _ _ _ _ _ c.loop.invariant c.in-Err.ensures.lost c.in-Err.ensures.goes_on

pub returns-in-Err-answer-clause-ok : goal.returns-in-Err-answer-clause-ok
returns-in-Err-answer-clause-ok g c =
    let lines = subst (λ hs. Appends (g.W.Write.contents c.loop.output) (g.W.Write.contents c.print_told.new.output) (flat_map told_line hs)) c.as_slice.ensures c.in_ok-print_told.ensures.ok in
    gathered_more _ _ _ _ _ _ _ _ _ c.in-Ok.progress.happenings (option_to_list c.in-Ok.progress.closed) _ c.loop.invariant c.in-Ok.ensures.went lines c.answer.ensures.went c.in-Err-answer.ensures.closes

pub returns-in_err-print_told-clause-err : goal.returns-in_err-print_told-clause-err
returns-in_err-print_told-clause-err g c =
    on_err _ _ (gather_fails _ _ _ _ _ _ _ _ c.in-Ok.progress.happenings (option_to_list c.in-Ok.progress.closed) c.loop.invariant c.in-Ok.ensures.went c.hear.ensures.silent c.in_err-print_told.ensures.err)
