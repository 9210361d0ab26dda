use Rattle.mq_route.proofs.Filling.{laws}
use Rattle.mq_route.proofs.laws.full_laws.Goals as goal

pub returns : goal.returns
returns c = laws c.store_laws.ensures
