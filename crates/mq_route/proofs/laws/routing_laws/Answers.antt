use Rattle.mq_route.proofs.Routing.{laws}
use Rattle.mq_route.proofs.laws.routing_laws.Goals as goal

pub returns : goal.returns
returns c = laws c.store_laws.ensures
