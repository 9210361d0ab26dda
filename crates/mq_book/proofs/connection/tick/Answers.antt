use Rattle.std.proofs.Common.{◌∙◌, sym}
use Rattle.mq_book.proofs.Connections.{makes_known, makes_tick}
use Rattle.mq_book.proofs.connection.tick.Goals as goal

pub returns-then-is_known-clause-ok : goal.returns-then-is_known-clause-ok
returns-then-is_known-clause-ok g c =
    makes_known g.S.Stepper.steps_to c.args.told.now c.args.now _ (sym c.is_known-is_known.ensures ∙ c.if-is_known.true)

pub returns-clause-ok : goal.returns-clause-ok
returns-clause-ok g c =
    makes_tick g.S.Stepper.steps_to c.args.told.now c.args.now _ _ _ (sym c.is_known-is_known.ensures ∙ c.if-is_known.false) c.in_ok-step.ensures.ok
