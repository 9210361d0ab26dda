use Rattle.std.proofs.Common.{arith}
use Rattle.mq_picture.specs.Records.{delivery_entries}
use Rattle.mq_picture.proofs.Recording.{records_next}
use Rattle.mq_picture.proofs.record.Recorder.all_delivered.Goals as goal

pub loop-delivery-preserved : goal.loop-delivery-preserved
loop-delivery-preserved c =
    records_next delivery_entries c.args.deliveries.now c.loop-delivery.delivery-index c.delivery-item.result c.args.self.now c.loop-delivery.self c.delivered.new.self (omega arith) c.delivery-item.is c.loop-delivery.invariant
    c.in_ok-delivered.ensures
