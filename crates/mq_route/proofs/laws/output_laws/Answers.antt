use Rattle.mq_route.proofs.Reaching.{laws}
use Rattle.mq_route.proofs.laws.output_laws.Goals as goal

pub returns : goal.returns
returns c = laws
