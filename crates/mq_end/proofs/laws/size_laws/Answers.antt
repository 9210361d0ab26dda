use Rattle.mq_end.proofs.Measures.{laws}
use Rattle.mq_end.proofs.laws.size_laws.Goals as goal

pub returns : goal.returns
returns c = laws
