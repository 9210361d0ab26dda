use Rattle.mq_end.proofs.Hearing.{receives_as}
use Rattle.mq_end.proofs.Windows.{received_window}
use Rattle.mq_end.proofs.endpoint.Endpoint.receive.Goals as goal

pub returns-clause-open : goal.returns-clause-open
returns-clause-open c = λ live.
    receives_as c.args.role c.args.now c.args.piece.now c.args.self.now c.take_bytes-closed.new.self c.new-told.result c.take_bytes-closed.new.told c.take_bytes-closed.result c.into_progress-2.result.happenings c.into_progress-2.result.acknowledged c.into_progress-2.result.closed
    c.take_bytes-closed.ensures c.new-told.ensures.happenings c.new-told.ensures.acknowledged c.into_progress-2.ensures.happenings c.into_progress-2.ensures.acknowledged c.into_progress-2.ensures.closed

pub returns-clause-window : goal.returns-clause-window
returns-clause-window c =
    received_window c.args.role c.args.piece.now c.args.self.now c.take_bytes-closed.new.self c.into_progress-2.result.happenings c.into_progress-2.result.acknowledged c.into_progress-2.result.closed
    (receives_as c.args.role c.args.now c.args.piece.now c.args.self.now c.take_bytes-closed.new.self c.new-told.result c.take_bytes-closed.new.told c.take_bytes-closed.result c.into_progress-2.result.happenings c.into_progress-2.result.acknowledged c.into_progress-2.result.closed
    c.take_bytes-closed.ensures c.new-told.ensures.happenings c.new-told.ensures.acknowledged c.into_progress-2.ensures.happenings c.into_progress-2.ensures.acknowledged c.into_progress-2.ensures.closed)
