use Rattle.mq_route.proofs.History.{laws}
use Rattle.mq_route.proofs.laws.history_laws.Goals as goal

pub returns : goal.returns
returns c = laws c.store_laws.ensures
