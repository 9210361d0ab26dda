use Rattle.mq_route.proofs.Silence.{laws}
use Rattle.mq_route.proofs.laws.silent_laws.Goals as goal

pub returns : goal.returns
returns c = laws
