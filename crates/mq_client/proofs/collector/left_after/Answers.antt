use Rattle.std.proofs.Common.{◌-◌, length, flat_map, ap, ◌∙◌, arith}
use Rattle.std.proofs.lemmas.List.{take_all}
use Rattle.mq_client.specs.Collecting.{handed}
use Rattle.mq_client.proofs.Gathers.{left_next}
use Rattle.mq_client.proofs.collector.left_after.Goals as goal

pub loop-happening-preserved : goal.loop-happening-preserved
loop-happening-preserved c =
    left_next c.args.happenings.now c.loop-happening.happening-index c.happening-item.result c.args.left c.loop-happening.left c.saturating_sub-left.result (omega arith) c.loop-happening.invariant
    (c.saturating_sub-left.ensures ∙ ap (λ n. c.loop-happening.left - n) (c.handed.ensures ∙ ap (λ h. length (handed h)) c.happening-item.is))

pub returns : goal.returns
returns c = c.loop-happening.invariant ∙ ap (λ hs. c.args.left - length (flat_map handed hs)) (take_all c.loop-happening.happening-index c.args.happenings.now (omega arith))
