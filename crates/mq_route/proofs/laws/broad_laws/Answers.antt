use Rattle.mq_route.proofs.Broad.{laws}
use Rattle.mq_route.proofs.laws.broad_laws.Goals as goal

pub returns : goal.returns
returns c = laws
