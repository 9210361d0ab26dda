use Rattle.mq_book.specs.Connection.{outside}
use Rattle.mq_book.proofs.Connections.{breaks_none, breaks_still, breaks_stopped, closes_whole, on_err}
use Rattle.mq_book.proofs.connection.serve_connection.Goals as goal

pub returns-in_err-step-clause-breaks : goal.returns-in_err-step-clause-breaks
returns-in_err-step-clause-breaks g c = on_err _ _ (breaks_none g.S.Stepper.steps_to _ _ _ (outside _ _ _ _) c.in_err-step.ensures.err)

pub returns-in_err-turns-clause-breaks : goal.returns-in_err-turns-clause-breaks
returns-in_err-turns-clause-breaks g c =
    on_err _ _ (breaks_stopped g.S.Stepper.steps_to _ _ _ _ (outside _ _ _ _) (outside _ _ _ _) _ c.in_ok-step.ensures.ok c.in_err-turns.ensures.err)

pub returns-in_err-step-2-clause-breaks : goal.returns-in_err-step-2-clause-breaks
returns-in_err-step-2-clause-breaks g c =
    on_err _ _ (breaks_still g.S.Stepper.steps_to _ _ _ _ _ (outside _ _ _ _) (outside _ _ _ _) _ c.in_ok-step.ensures.ok c.in_ok-turns.ensures.off c.in_err-step-2.ensures.err)

pub returns-clause-closes : goal.returns-clause-closes
returns-clause-closes g c =
    closes_whole g.S.Stepper.steps_to _ _ _ _ _ (outside _ _ _ _) (outside _ _ _ _) _ _ c.in_ok-step.ensures.ok c.in_ok-turns.ensures.off c.in_ok-step-2.ensures.ok
