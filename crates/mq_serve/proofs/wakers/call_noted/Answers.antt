use Rattle.mq_serve.specs.Inside.Wakers.{must_wake}
use Rattle.mq_serve.proofs.Callings.{called_next, skipped_next}
use Rattle.mq_serve.proofs.wakers.call_noted.Goals as goal
use Rattle.mq_serve.proofs.wakers.call_noted.Goals.{then-must_wake, else-must_wake}

pub loop-number-preserved : goal.loop-number-preserved
loop-number-preserved g c =
    let at = c.index-seats-number in
    elim c.if-must_wake.branch [
      | then-must_wake w ↦ rw w.caller-is (called_next (must_wake c.args.stepped) c.args.seats.now c.loop-number.number at.result at.result c.must_wake.result _ _ _ c.loop-number-test.true at.is c.must_wake.ensures w.if-must_wake.true c.loop-number.invariant w.call.ensures)
      | else-must_wake w ↦ rw w.caller-is (skipped_next (must_wake c.args.stepped) c.args.seats.now c.loop-number.number at.result at.result c.must_wake.result _ _ c.loop-number-test.true at.is c.must_wake.ensures w.if-must_wake.false c.loop-number.invariant)
    ]
