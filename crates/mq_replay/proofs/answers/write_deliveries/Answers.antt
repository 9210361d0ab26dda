use Rattle.std.proofs.Common.{arith}
use Rattle.mq_replay.specs.Printing.{delivery_lines}
use Rattle.mq_replay.proofs.Appending.{lines_next}
use Rattle.mq_replay.proofs.answers.write_deliveries.Goals as goal

pub loop-delivery-preserved : goal.loop-delivery-preserved
loop-delivery-preserved g c =
    let w = g.W.Write.contents in
    lines_next delivery_lines c.args.deliveries.now c.loop-delivery.delivery-index c.delivery-item.result (w c.args.output.now) (w c.loop-delivery.output) (w c.write_delivery.new.output)
    (omega arith) c.delivery-item.is c.loop-delivery.invariant c.in_ok-write_delivery.ensures
