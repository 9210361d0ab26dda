use Rattle.std.proofs.Common.{ap}
use Rattle.mq_end.specs.declared.config.ClientConfig.{ClientConfig}
use Rattle.mq_pubsub_runs.proofs.Visits.{discarded}
use Rattle.mq_pubsub_runs.proofs.visit.discard.Goals as goal

pub returns : goal.returns
returns g c =
    discarded _ _ _ (ap (λ (config : ClientConfig). config.id) c.in_ok-client.ensures.config) c.in_ok-client.ensures.end c.visit_once.ensures
