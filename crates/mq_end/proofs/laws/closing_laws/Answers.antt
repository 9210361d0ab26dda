use Rattle.mq_end.proofs.Closing.{laws}
use Rattle.mq_end.proofs.laws.closing_laws.Goals as goal

pub returns : goal.returns
returns c = laws
