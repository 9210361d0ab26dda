use Rattle.mq_route.proofs.Expiring.{laws}
use Rattle.mq_route.proofs.laws.expiry_laws.Goals as goal

pub returns : goal.returns
returns c = laws
