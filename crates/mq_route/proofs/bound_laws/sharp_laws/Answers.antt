use Rattle.mq_route.proofs.Bounds.Sharp.{laws}
use Rattle.mq_route.proofs.bound_laws.sharp_laws.Goals as goal

pub returns : goal.returns
returns c = laws c.encoding_laws.ensures
