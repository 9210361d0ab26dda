use Rattle.mq_route.proofs.Reading.{laws}
use Rattle.mq_route.proofs.laws.read_laws.Goals as goal

pub returns : goal.returns
returns c = laws
