use Rattle.mq_book.specs.Connection.{outside}
use Rattle.mq_book.proofs.WorkerCounts.{worked_any, worked_ok}
use Rattle.mq_book.proofs.audited_worker.work.Goals as goal

pub returns-clause-worked : goal.returns-clause-worked
returns-clause-worked g c = worked_any _ _ _ _ (outside _ _ _ _) (outside _ _ _ _) c.serve_connection.ensures.closes c.serve_connection.ensures.breaks

pub returns-clause-two : goal.returns-clause-two
returns-clause-two g c = worked_ok _ _ _ _ (outside _ _ _ _) (outside _ _ _ _) c.serve_connection.ensures.closes
