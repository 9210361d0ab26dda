use Rattle.mq_flow.proofs.WholeTwo.{laws}
use Rattle.mq_flow.proofs.laws.saved_two_laws.Goals as goal

pub returns : goal.returns
returns c = laws c.text_laws.ensures
