use Rattle.mq_end.proofs.Readiness.{laws}
use Rattle.mq_end.proofs.laws.ready_laws.Goals as goal

pub returns : goal.returns
returns c = laws
