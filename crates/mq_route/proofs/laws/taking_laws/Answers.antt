use Rattle.mq_route.proofs.Taking.{laws}
use Rattle.mq_route.proofs.laws.taking_laws.Goals as goal

pub returns : goal.returns
returns c = laws
