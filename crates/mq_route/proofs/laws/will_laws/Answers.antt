use Rattle.mq_route.proofs.Losing.{laws}
use Rattle.mq_route.proofs.laws.will_laws.Goals as goal

pub returns : goal.returns
returns c = laws
