use Rattle.std.proofs.Common.{refl, slice_index_or}
use Rattle.mq_serve.specs.ReadOrder.{idle, reads_beside}
use Rattle.mq_serve.proofs.Callings.{called_next, skipped_next}
use Rattle.mq_serve.proofs.read_order.call_readers.Goals as goal
use Rattle.mq_serve.proofs.read_order.call_readers.Goals.{then-reads_beside, else-reads_beside}

pub loop-number-preserved : goal.loop-number-preserved
loop-number-preserved g c =
    let seat = slice_index_or c.args.seats.now c.loop-number.number idle in
    elim c.if-reads_beside.branch [
      | then-reads_beside w ↦ rw w.caller-is (called_next (reads_beside c.args.worker) c.args.seats.now c.loop-number.number idle seat c.reads_beside.result _ _ _ c.loop-number-test.true refl c.reads_beside.ensures w.if-reads_beside.true c.loop-number.invariant w.call.ensures)
      | else-reads_beside w ↦ rw w.caller-is (skipped_next (reads_beside c.args.worker) c.args.seats.now c.loop-number.number idle seat c.reads_beside.result _ _ c.loop-number-test.true refl c.reads_beside.ensures w.if-reads_beside.false c.loop-number.invariant)
    ]
