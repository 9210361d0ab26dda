use Rattle.mq_route.proofs.Bounds.Coming.{laws}
use Rattle.mq_route.proofs.bound_laws.broker_laws.Goals as goal

pub returns : goal.returns
returns c = laws c.pending_is_short.ensures
