use Rattle.mq_loopback.proofs.Runs.{published}
use Rattle.mq_loopback.proofs.client_run.publish.Goals as goal

pub returns : goal.returns
returns g c = published c.leave.result _ _ _ _ c.args.publisher.now c.in_ok-open.ensures.ok c.in_ok-publish_acknowledged.ensures c.leave.ensures.leaves
