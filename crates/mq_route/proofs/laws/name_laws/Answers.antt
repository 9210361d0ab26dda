use Rattle.mq_route.proofs.Names.{laws}
use Rattle.mq_route.proofs.laws.name_laws.Goals as goal

pub returns : goal.returns
returns c = laws
