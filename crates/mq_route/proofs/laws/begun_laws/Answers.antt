use Rattle.mq_route.proofs.Beginnings.{laws}
use Rattle.mq_route.proofs.laws.begun_laws.Goals as goal

pub returns : goal.returns
returns c = laws c.store_laws.ensures
