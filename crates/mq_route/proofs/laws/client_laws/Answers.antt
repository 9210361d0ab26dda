use Rattle.mq_route.proofs.Clients.{laws}
use Rattle.mq_route.proofs.laws.client_laws.Goals as goal

pub returns : goal.returns
returns c = laws c.store_laws.ensures
