use Rattle.mq_end.proofs.Windows.{laws}
use Rattle.mq_end.proofs.laws.window_laws.Goals as goal

pub returns : goal.returns
returns c = laws
