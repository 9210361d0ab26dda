use Rattle.mq_loopback.proofs.Runs.{collected_by}
use Rattle.mq_loopback.proofs.client_run.collect.Goals as goal

pub returns-clause-collected : goal.returns-clause-collected
returns-clause-collected g c = collected_by c.leave.result _ _ _ _ _ c.in_ok-gather.ensures.receives c.leave.ensures.leaves
