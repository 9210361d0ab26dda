use Rattle.std.proofs.Common.{take}
use Rattle.std.specs.List.{flat_map}
use Rattle.mq_picture.specs.Inside.Recording.{Records}
use Rattle.mq_picture.specs.Records.{happening_entries}
use Rattle.mq_picture.proofs.record.Recorder.all_happened.Given as goal

abbrev pub invariant-loop-happening : goal.invariant-loop-happening
invariant-loop-happening l = Records l.initial.self l.self (flat_map (happening_entries l.side) (take l.happening-index l.happenings))
