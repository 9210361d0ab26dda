use Rattle.std.proofs.Common.{◌∙◌, sym}
use Rattle.mq_book.proofs.Connections.{makes_bytes}
use Rattle.mq_book.proofs.connection.take_in.Goals as goal

pub returns-clause-ok : goal.returns-clause-ok
returns-clause-ok g c = makes_bytes g.S.Stepper.steps_to _ _ _ _ _ _ c.in_ok-step.ensures.ok c.in-Ok.ensures (sym c.is_empty.ensures ∙ c.if-is_empty.false)
