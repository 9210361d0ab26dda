use Rattle.mq_end.proofs.Lateness.{laws}
use Rattle.mq_end.proofs.laws.keep_alive_laws.Goals as goal

pub returns : goal.returns
returns c = laws
