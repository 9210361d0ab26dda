use Rattle.mq_flow.proofs.Whole.{laws}
use Rattle.mq_flow.proofs.laws.saved_laws.Goals as goal

pub returns : goal.returns
returns c = laws
