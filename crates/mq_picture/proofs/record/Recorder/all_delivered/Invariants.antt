use Rattle.std.proofs.Common.{take}
use Rattle.std.specs.List.{flat_map}
use Rattle.mq_picture.specs.Inside.Recording.{Records}
use Rattle.mq_picture.specs.Records.{delivery_entries}
use Rattle.mq_picture.proofs.record.Recorder.all_delivered.Given as goal

abbrev pub invariant-loop-delivery : goal.invariant-loop-delivery
invariant-loop-delivery l = Records l.initial.self l.self (flat_map delivery_entries (take l.delivery-index l.deliveries))
