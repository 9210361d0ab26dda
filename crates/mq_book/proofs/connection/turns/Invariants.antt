use Rattle.mq_book.specs.Connection.{outside}
use Rattle.mq_book.proofs.Connections.{Going}
use Rattle.mq_book.proofs.connection.turns.Given as goal

abbrev pub invariant-loop-nth : goal.invariant-loop-nth
invariant-loop-nth g l =
    Going g.S.Stepper.steps_to l.fn.conn l.nth l.told l.fn.stepper l.stepper
    (outside (g.T.Stream.coming l.fn.stream) (g.T.Stream.written l.fn.stream) (g.T.Stream.closed l.fn.stream) (g.C.Clock.reported l.fn.clock))
    (outside (g.T.Stream.coming l.stream) (g.T.Stream.written l.stream) (g.T.Stream.closed l.stream) (g.C.Clock.reported l.clock))
