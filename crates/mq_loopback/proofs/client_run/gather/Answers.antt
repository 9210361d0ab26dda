use Rattle.std.proofs.Common.{◌++◌, flat_map, ap, ◌∙◌}
use Rattle.mq_client.specs.Collecting.{handed}
use Rattle.mq_loopback.proofs.Runs.{receives_more, receives_none}
use Rattle.mq_loopback.proofs.client_run.gather.Goals as goal

pub loop-init : goal.loop-init
loop-init g c = receives_none _ _

pub loop-preserved : goal.loop-preserved
loop-preserved g c =
    receives_more _ _ _ _ _ _ _ _ _ c.loop.invariant c.in_ok-progress.ensures.went c.in_ok-answer.ensures.closes c.in_ok-answer.ensures.went
    (c.in_ok-keep_handed.ensures ∙ ap (λ hs. c.loop.messages.items ++ flat_map handed hs) c.in_ok-into_vec.ensures.items)
