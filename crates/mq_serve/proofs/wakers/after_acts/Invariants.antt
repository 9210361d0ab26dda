use Rattle.std.proofs.Common.{◌≡◌, length}
use Rattle.mq_serve.specs.Inside.Wakers.{after_acts}
use Rattle.mq_serve.proofs.wakers.after_acts.Given as goal

abbrev pub invariant-loop-rest : goal.invariant-loop-rest
invariant-loop-rest l = after_acts l.number l.fn.acts l.fn.seat ≡ after_acts l.number l.rest l.seat

abbrev pub decreases-loop-rest : goal.decreases-loop-rest
decreases-loop-rest l = length l.rest
