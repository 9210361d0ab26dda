use Rattle.std.proofs.Common.{◌≡◌, ◌-◌, length, take, flat_map}
use Rattle.mq_client.specs.Collecting.{handed}
use Rattle.mq_client.proofs.collector.left_after.Given as goal

abbrev pub invariant-loop-happening : goal.invariant-loop-happening
invariant-loop-happening l = l.left ≡ l.fn.left - length (flat_map handed (take l.happening-index l.happenings))
