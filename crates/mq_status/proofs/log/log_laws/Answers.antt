use Rattle.mq_status.proofs.Visible.{log_laws}
use Rattle.mq_status.proofs.log.log_laws.Goals as goal

pub returns : goal.returns
returns c = log_laws
