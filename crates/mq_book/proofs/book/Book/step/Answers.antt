use Rattle.std.proofs.Common.{arith}
use Rattle.mq_book.proofs.Steps.{step_invariant}
use Rattle.mq_book.proofs.book.Book.step.Goals as goal

pub invariant_of-self-in-Ok-step_twice : goal.invariant_of-self-in-Ok-step_twice
invariant_of-self-in-Ok-step_twice g c =
    step_invariant _ _ _ _ _ _ _ _ _ _ _ _ c.self.invariant c.reserve.ensures.items c.push.ensures c.in-Ok-step_twice.ensures.step
    c.in-Ok-step_twice.ensures.twice c.add.ensures.total (omega (arith, c.len-length.ensures, c.in-Ok.ensures, c.if-count-self.false))
