use Rattle.mq_schedule.proofs.Written.{no_amount}
use Rattle.mq_schedule.proofs.steps.delivery.Goals as goal

pub returns-in_err-amount : goal.returns-in_err-amount
returns-in_err-amount c =
    rw c.from_residual-in_err-amount.ensures (no_amount c.args.words c.in_ok-to.to.now c.in_ok-to.count.now c.in_ok-to.ensures.some c.in_err-amount.ensures)
