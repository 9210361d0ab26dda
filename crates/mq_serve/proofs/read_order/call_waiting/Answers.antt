use Rattle.std.proofs.Common.{refl, slice_index_or}
use Rattle.mq_serve.specs.ReadOrder.{idle, waits}
use Rattle.mq_serve.proofs.Callings.{called_next, skipped_next}
use Rattle.mq_serve.proofs.read_order.call_waiting.Goals as goal
use Rattle.mq_serve.proofs.read_order.call_waiting.Goals.{then-waits, else-waits}

pub loop-number-preserved : goal.loop-number-preserved
loop-number-preserved g c =
    let seat = slice_index_or c.args.seats.now c.loop-number.number idle in
    elim c.if-waits.branch [
      | then-waits w ↦ rw w.caller-is (called_next waits c.args.seats.now c.loop-number.number idle seat c.waits.result _ _ _ c.loop-number-test.true refl c.waits.ensures w.if-waits.true c.loop-number.invariant w.call.ensures)
      | else-waits w ↦ rw w.caller-is (skipped_next waits c.args.seats.now c.loop-number.number idle seat c.waits.result _ _ c.loop-number-test.true refl c.waits.ensures w.if-waits.false c.loop-number.invariant)
    ]
