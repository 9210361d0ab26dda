use Rattle.std.proofs.Common.{arith}
use Rattle.mq_book.specs.Connection.{outside}
use Rattle.mq_book.proofs.Connections.{ends_counted, ends_then, going_none, going_on, on_err, stops_then}
use Rattle.mq_book.proofs.connection.turns.Goals as goal

pub loop-nth-init : goal.loop-nth-init
loop-nth-init g c = going_none g.S.Stepper.steps_to _ _ (outside _ _ _ _)

pub loop-nth-preserved : goal.loop-nth-preserved
loop-nth-preserved g c =
    going_on g.S.Stepper.steps_to _ _ _ _ _ _ _ (outside _ _ _ _) (outside _ _ _ _) (outside _ _ _ _) c.loop-nth.invariant (c.in_ok-turn.ensures.on c.if-not-branch.false)

pub returns-in_err-turn-clause-err : goal.returns-in_err-turn-clause-err
returns-in_err-turn-clause-err g c =
    on_err _ _ (stops_then g.S.Stepper.steps_to _ _ _ _ _ _ (outside _ _ _ _) (outside _ _ _ _) (outside _ _ _ _) c.loop-nth.invariant c.in_err-turn.ensures.err)

pub returns-then-not-branch-clause-off : goal.returns-then-not-branch-clause-off
returns-then-not-branch-clause-off g c =
    ends_then g.S.Stepper.steps_to _ _ _ _ _ _ (outside _ _ _ _) (outside _ _ _ _) (outside _ _ _ _) c.loop-nth.invariant (c.in_ok-turn.ensures.off c.if-not-branch.true)

pub returns-clause-off : goal.returns-clause-off
returns-clause-off g c = ends_counted g.S.Stepper.steps_to _ _ _ _ _ (outside _ _ _ _) (outside _ _ _ _) (omega arith) c.loop-nth.invariant
