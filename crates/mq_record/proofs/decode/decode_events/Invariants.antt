use Rattle.std.proofs.Common.{◌≡◌, ◌++◌, length}
use Rattle.mq_record.specs.Encoding.{entry_bytes}
use Rattle.mq_record.specs.Reading.{AreRecorded}
use Rattle.mq_record.proofs.decode.decode_events.Given as goal

abbrev pub invariant-loop-left : goal.invariant-loop-left
invariant-loop-left l = record {
  recorded : AreRecorded l.events.items;
  parts : l.bytes ≡ entry_bytes l.events.items ++ l.left;
}

abbrev pub decreases-loop-left : goal.decreases-loop-left
decreases-loop-left l = length l.left
